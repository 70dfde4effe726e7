use Rattle.std.proofs.Common.{◌≡◌, ℕ, suc, ◌-◌, ◌*◌, ◌<◌, ◌≤◌, List, [], ◌∷◌, ◌++◌, length, Ok, Err, Result, sym, refl, ap, ◌∙◌, subst, arith, length-append}
use Rattle.search.specs.Coded.{Coded}
use Rattle.search.specs.Meanings.{coded}
use Rattle.atlas.specs.Answering.{Carried, unmet}
use Rattle.atlas.specs.Blocks.{trimmed, block_coded, no_form, Kept}
use Rattle.atlas.specs.Calls.{Held, After}
use Rattle.atlas.specs.Drafts.{net_of}
use Rattle.atlas.specs.Holding.{held_of, bytes_of, places_of}
use Rattle.atlas.specs.Legends.{full_legend, coded_by}
use Rattle.atlas.specs.Lent.{labels_of}
use Rattle.atlas.specs.FirstLegs.{Behind}
use Rattle.atlas.specs.declared.answer.Answer.{Answer}
use Rattle.atlas.specs.declared.answer.Answer.TheVariants.{New}
use Rattle.survey.specs.declared.refusal.Refusal.{Refusal}
use Rattle.survey.specs.declared.refusal.Refusal.TheVariants.{AtlasFull}
use Rattle.atlas.proofs.Answered.{unmatched_new, unmatched_full}
use Rattle.atlas.proofs.Holding.{forms_length, blocks_held, last_at}
use Rattle.atlas.proofs.KeptBlocks.{trimmed_coded, kinds_coded}
use Rattle.atlas.proofs.LawfulCalls.{quiet}
use Rattle.atlas.proofs.Atlas.number.Goals as goal

pub returns-then-count-blocks : goal.returns-then-count-blocks
unfolding unmet
returns-then-count-blocks g c p =
    let sense = g.L.Label.sense in
    let n = net_of c.args.draft.now in
    let a = c.args.self.now in
    let s = held_of a in
    let full : s.blocks ≤ length s.forms = omega (arith, c.count.ensures, c.blocks-2.ensures, c.if-count-blocks.true) in
    subst (λ (x : After sense). Carried sense x (Err AtlasFull) p p a a) (sym (unmatched_full sense s n (full_legend sense n s.legend) c.args.trials full))
    (quiet (record { answer = refl; place = refl }) (λ bytes places. (refl, refl)))

pub join-requires : goal.join-requires
unfolding held_of
join-requires g c = omega (arith, ap length c.requires.complete, c.requires.places)

pub store-requires : goal.store-requires
unfolding held_of
store-requires g c =
    let sense = g.L.Label.sense in
    let n = net_of c.args.draft.now in
    let bounds = g.N.Network.bounded c.args.draft.now.net.now in
    let a = c.args.self.now in
    let ls = labels_of c.join.new.legend in
    let is = sym c.coded-form.ensures in
    record {
      free = omega (arith, c.count.ensures, c.blocks-2.ensures, c.if-count-blocks.false, forms_length a, blocks_held a);
      kinds = λ u l. subst (λ (h : Coded). h.kind u < 256) is (kinds_coded sense ls n bounds u);
      trimmed = subst (λ (h : Coded). trimmed h ≡ h) is (trimmed_coded sense ls n bounds);
    }

pub overflow_cast-result : goal.overflow_cast-result
overflow_cast-result g c = record { fits = omega (arith, c.count-2.ensures, forms_length c.store.new.self) }

pub returns : goal.returns
unfolding held_of bytes_of places_of unmet
returns g c p =
    let sense = g.L.Label.sense in
    let n = net_of c.args.draft.now in
    let a = c.args.self.now in
    let s = held_of a in
    let b = c.store.new.self in
    let l = c.join.new.legend in
    let ls = full_legend sense n s.legend in
    let joined : labels_of l ≡ ls = c.join.ensures.labels ∙ c.requires.complete in
    let form : coded c.coded-form.result ≡ coded_by sense ls n = c.coded-form.ensures ∙ ap (λ (ks : List g.row.L.Denot). coded_by sense ks n) joined in
    let free : length s.forms < s.blocks = omega (arith, c.count.ensures, c.blocks-2.ensures, c.if-count-blocks.false, forms_length a, blocks_held a) in
    let next : c.count-2.result ≡ suc (length s.forms) = c.count-2.ensures ∙ ap (λ (h : Held g.row.L.Denot). length h.forms) c.store.ensures.held ∙ length-append s.forms (coded c.coded-form.result ∷ []) ∙ omega arith in
    subst (λ (x : After sense). Carried sense x (Ok (New c.count-2.result c.args.trials)) p p a b) (sym (unmatched_new sense s n ls c.args.trials free))
    (record {
      says = record { answer = ap {B = Result Answer Refusal} (λ (k : ℕ). Ok (New k c.args.trials)) next; place = refl };
      held = c.store.ensures.held
          ∙ (λ i. record { blocks = s.blocks; places = c.join.ensures.room i; forms = s.forms ++ form i ∷ []; legend = joined i });
      written = (
        c.store.ensures.length,
        (ap (block_coded (bytes_of b)) {x = suc (length s.forms) - 1} {y = length s.forms} (omega arith)
            ∙ c.store.ensures.block
            ∙ form
            ∙ sym (last_at s.forms (coded_by sense ls n) (suc (length s.forms) - 1) no_form (omega arith))),
        subst (λ (k : ℕ). Kept (4161 * k) 4161 (bytes_of a) (bytes_of b)) {x = length s.forms} {y = suc (length s.forms) - 1} (omega arith) c.store.ensures.others,
        subst (λ (k : List g.row.L.Denot). Behind (length k) (places_of a) (places_of b)) joined
            (subst (λ (k : List g.row.L.Denot). Behind (length (labels_of l)) (places_of a) k) (sym c.store.ensures.places) c.join.ensures.others),
      );
    })
