use Rattle.std.proofs.Common.{◌≡◌, ℕ, ◌+◌, ◌*◌, ◌/◌, min, [], ◌∷◌, ◌++◌, sym, refl, ap, ◌∙◌, subst, arith}
use Rattle.search.specs.Meanings.{coded}
use Rattle.atlas.specs.Blocks.{blocks_in, block_coded, Kept}
use Rattle.atlas.specs.Holding.{forms_in, held_of, bytes_of, places_of}
use Rattle.atlas.specs.Lent.{labels_of, room_of}
use Rattle.atlas.proofs.Holding.{forms_length, blocks_held, forms_stored}
use Rattle.atlas.proofs.InArrays.{code_searchable}
use Rattle.atlas.proofs.Atlas.store.Goals as goal

pub write_block-requires : goal.write_block-requires
write_block-requires g c = record {
  block = omega (arith, c.requires.free, c.count-next.ensures, blocks_held c.args.self.now);
  kinds = c.requires.kinds;
}

pub overflow_add-self : goal.overflow_add-self
overflow_add-self g c = record { fits = omega (arith, c.count-next.ensures, forms_length c.args.self.now) }

pub returns : goal.returns
unfolding held_of bytes_of places_of
returns g c =
    let a = c.args.self.now in
    let form = coded c.args.form.now in
    let k = c.count-next.result in
    let old = a.bytes.now in
    let new = c.write_block.new.bytes in
    let size = c.write_block.ensures.length in
    let blocks : blocks_in new ≡ blocks_in old = ap (λ (n : ℕ). min (n / 4161) 200) size in
    let put : block_coded new k ≡ form = c.write_block.ensures.form ∙ c.requires.trimmed in
    let kept = c.write_block.ensures.others in
    let counted : k ≡ min a.forms (blocks_in old) = c.count-next.ensures ∙ forms_length a in
    let forms : forms_in new (min (k + 1) (blocks_in new)) ≡ forms_in old (min a.forms (blocks_in old)) ++ form ∷ [] =
    ap (forms_in new) {x = min (k + 1) (blocks_in new)} {y = k + 1} (omega (arith, blocks, c.requires.free, c.count-next.ensures, blocks_held a))
    ∙ forms_stored old new k form put (code_searchable c.args.form.now) kept
    ∙ ap (λ (n : ℕ). forms_in old n ++ form ∷ []) counted in
    record {
      held = λ i. record { blocks = blocks i; places = room_of a.legend; forms = forms i; legend = labels_of a.legend };
      length = size;
      block = ap (block_coded new) (sym c.count-next.ensures) ∙ put;
      others = subst (λ (n : ℕ). Kept (4161 * n) 4161 old new) c.count-next.ensures kept;
      places = refl;
    }
