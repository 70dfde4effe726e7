-- What an atlas holds, part by part.
use Rattle.std.proofs.Common.{◌≡◌, ℕ, zero, suc, ◌+◌, ◌-◌, ◌*◌, ◌<◌, min, Bool, true, false, cond, List, [], ◌∷◌, ◌++◌, map, length, get_or, Some, None, Option, sym, refl, ap, ◌∙◌, arith}
use Rattle.std.proofs.lemmas.List.{get_or-append_right}
use Rattle.std.specs.List.{range_with_len}
use Rattle.std.specs.Option.{option_map, MatchOption}
use Rattle.atlas.specs.Blocks.{blocks_in, block_coded, form_in, no_form, Kept}
use Rattle.atlas.specs.Holding.{forms_in, held_of}
use Rattle.atlas.specs.Lent.{labels_of, room_of}
use Rattle.atlas.proofs.KeptBlocks.{block_other}
use Rattle.atlas.specs.declared.Atlas.{Atlas}
use Rattle.search.specs.Arrays.{searchable}
use Rattle.search.specs.Coded.{Coded}

-- an atlas holds what its bytes and its legend hold
pub held_parts :
    {L : Type 0} (a : Atlas L) {b p : ℕ} {fs : List Coded} {ls : List L} →
    blocks_in a.bytes.now ≡ b → room_of a.legend ≡ p → forms_in a.bytes.now (min a.forms (blocks_in a.bytes.now)) ≡ fs → labels_of a.legend ≡ ls →
    held_of a ≡ record { blocks = b; places = p; forms = fs; legend = ls }
unfolding held_of
held_parts a x y z w = λ i. record { blocks = x i; places = y i; forms = z i; legend = w i }

-- an atlas that counts no forms has none
pub none_yet : (bytes : List ℕ) → forms_in bytes (min 0 (blocks_in bytes)) ≡ []
none_yet bytes = ap (forms_in bytes) {x = min 0 (blocks_in bytes)} {y = 0} (omega arith)

-- as many as are counted
pub forms_count : (f : ℕ → Coded) (a k : ℕ) → length (map f (range_with_len a k)) ≡ k
forms_count f a zero = refl
forms_count f a (suc k) = ap suc (forms_count f (a + 1) k)

-- an atlas has as many forms as it counts, and no more than it has blocks for
pub forms_length : {L : Type 0} (a : Atlas L) → length (held_of a).forms ≡ min a.forms (blocks_in a.bytes.now)
unfolding held_of
forms_length a = forms_count (form_in a.bytes.now) 0 (min a.forms (blocks_in a.bytes.now))

-- the forms that an atlas holds
pub forms_held : {L : Type 0} (a : Atlas L) → (held_of a).forms ≡ forms_in a.bytes.now (length (held_of a).forms)
unfolding held_of
forms_held a =
    ap (forms_in a.bytes.now) (sym (forms_count (form_in a.bytes.now) 0 (min a.forms (blocks_in a.bytes.now))))

-- its blocks
pub blocks_held : {L : Type 0} (a : Atlas L) → (held_of a).blocks ≡ blocks_in a.bytes.now
unfolding held_of
blocks_held a = refl

module _ {X : Type 0} (means : X → Coded) (b : Coded) where
  -- what can be searched is the form, and what cannot counts as the form of no stations
  pub form_chosen :
      (o : Option X) (r : X) → option_map means o ≡ cond (searchable b) (Some b) None → MatchOption o (means r ≡ no_form) (λ x. r ≡ x) → means r ≡ cond (searchable b) b no_form
  form_chosen o r e m = go (searchable b) o e m
    where
      go : (t : Bool) (o : Option X) → option_map means o ≡ cond t (Some b) None → MatchOption o (means r ≡ no_form) (λ x. r ≡ x) → means r ≡ cond t b no_form
      go true None e m = let z : ◌≡◌ {A = ℕ} 0 1 = cc in absurd (omega arith)
      go false None e m = m
      go true (Some x) e m = cc
      go false (Some x) e m = let z : ◌≡◌ {A = ℕ} 0 1 = cc in absurd (omega arith)

-- the forms up to a number are those before it and its own
forms_push : (f : ℕ → Coded) (a k : ℕ) → map f (range_with_len a (suc k)) ≡ map f (range_with_len a k) ++ f (a + k) ∷ []
forms_push f a zero = ap (λ (j : ℕ). f j ∷ []) (omega arith)
forms_push f a (suc k) =
    ap (λ (gs : List Coded). f a ∷ gs) (forms_push f (a + 1) k)
    ∙ ap (λ (j : ℕ). f a ∷ (map f (range_with_len (a + 1) k) ++ f j ∷ [])) {x = a + 1 + k} {y = a + suc k} (omega arith)

-- forms that agree
forms_agree : (f g : ℕ → Coded) (a k : ℕ) → ((j : ℕ) → j < a + k → f j ≡ g j) → map f (range_with_len a k) ≡ map g (range_with_len a k)
forms_agree f g a zero h = refl
forms_agree f g a (suc k) h =
    ap (λ (x : Coded). x ∷ map f (range_with_len (a + 1) k)) (h a (omega arith))
    ∙ ap (λ (gs : List Coded). g a ∷ gs) (forms_agree f g (a + 1) k (λ j l. h j (omega arith)))

-- one form more, written into block k
module _ (old new : List ℕ) (k : ℕ) (g : Coded) (put : block_coded new k ≡ g) (can : searchable g ≡ true) (kept : Kept (4161 * k) 4161 old new) where
  -- a form as the network of its block
  abbrev as_form : Coded → Coded
  as_form b = cond (searchable b) b no_form

  pub forms_stored : forms_in new (k + 1) ≡ forms_in old k ++ g ∷ []
  forms_stored =
      ap (λ (n : ℕ). forms_in new n) {x = k + 1} {y = suc k} (omega arith)
      ∙ forms_push (form_in new) 0 k
      ∙ ap (λ (n : ℕ). map (form_in new) (range_with_len 0 k) ++ form_in new n ∷ []) {x = 0 + k} {y = k} (omega arith)
      ∙ ap (λ (x : Coded). map (form_in new) (range_with_len 0 k) ++ x ∷ []) (ap as_form put ∙ ap (λ (b : Bool). cond b g no_form) can)
      ∙ ap (λ (gs : List Coded). gs ++ g ∷ []) (forms_agree (form_in new) (form_in old) 0 k (λ j l. ap as_form (block_other old new k j (λ e. omega arith) kept)))

-- the last of a list
pub last_at : {A : Type 0} (xs : List A) (x : A) (k : ℕ) (d : A) → k ≡ length xs → get_or (xs ++ x ∷ []) k d ≡ x
last_at {A} xs x k d e =
    get_or-append_right xs (x ∷ []) (length xs) k d refl (omega arith)
    ∙ ap (λ (j : ℕ). get_or (x ∷ []) j d) {x = k - length xs} {y = 0} (omega arith)
