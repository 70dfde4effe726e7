-- Noting the legs that first have a missing label: the labels of a legend and those of the legs behind them, as one list.
use Rattle.std.proofs.Common.{◌≡◌, ℕ, suc, ◌+◌, ◌≤◌, Bool, true, false, not, cond, ◌||◌, eqb, ltb, leb, List, [], ◌∷◌, ◌++◌, length, ℤ, Some, None, Option, sym, refl, ap, ◌∙◌, arith, length-append, le-leb}
use Rattle.std.specs.List.{list_any}
use Rattle.std.proofs.lemmas.List.{append_assoc}
use Rattle.std.proofs.lemmas.Bool.Decides.{nat_tests}
use Rattle.atlas.specs.FirstLegs.{labels_on}
use Rattle.atlas.specs.Legends.{has_sense, number_of, noted}
use Rattle.atlas.specs.Senses.{same_sense}

-- the labels of some legs and of one more, which is there
labels_on_push :
    {L : Type 0} (leg : ℕ → ℕ → Option L) (ps : List (ℕ × ℕ)) (u v : ℕ) (x : L) → leg u v ≡ Some x → labels_on leg (ps ++ (u, v) ∷ []) ≡ labels_on leg ps ++ x ∷ []
labels_on_push {L} leg [] u v x e = ap (λ (o : Option L). elim o as (λ _. List L) [ None ↦ [] | Some y ↦ y ∷ [] ]) e
labels_on_push {L} leg (p ∷ ps) u v x e = go (leg p.0 p.1) (labels_on_push leg ps u v x e)
  where
    go :
        (o : Option L) → labels_on leg (ps ++ (u, v) ∷ []) ≡ labels_on leg ps ++ x ∷ [] →
        elim o as (λ _. List L) [ None ↦ labels_on leg (ps ++ (u, v) ∷ []) | Some y ↦ y ∷ labels_on leg (ps ++ (u, v) ∷ []) ]
        ≡ elim o as (λ _. List L) [ None ↦ labels_on leg ps | Some y ↦ y ∷ labels_on leg ps ] ++ x ∷ []
    go None h = h
    go (Some y) h = ap (λ (r : List L). y ∷ r) h

-- the labels of some legs lack a sense exactly where none of the legs has it
pub lacking_legs :
    {L : Type 0} (sense : L → List ℤ) (leg : ℕ → ℕ → Option L) (x : L) (ps : List (ℕ × ℕ)) → not (list_any (λ p. has_sense sense x (leg p.0 p.1)) ps) ≡ eqb (number_of sense (labels_on leg ps) x) 0
lacking_legs sense leg x [] = refl
lacking_legs {L} sense leg x (p ∷ ps) = go (leg p.0 p.1) (lacking_legs sense leg x ps)
  where
    also : (b c : Bool) (r : ℕ) → not c ≡ eqb r 0 → not (b || c) ≡ eqb (elim b as (λ _. ℕ) [ true ↦ 1 | false ↦ elim (eqb r 0) as (λ _. ℕ) [ true ↦ 0 | false ↦ suc r ] ]) 0
    also true c r h = refl
    also false c r h = grind (arith, nat_tests)

    go :
        (o : Option L) → not (list_any (λ p. has_sense sense x (leg p.0 p.1)) ps) ≡ eqb (number_of sense (labels_on leg ps) x) 0 →
        not (has_sense sense x o || list_any (λ p. has_sense sense x (leg p.0 p.1)) ps) ≡ eqb (number_of sense (elim o as (λ _. List L) [ None ↦ labels_on leg ps | Some y ↦ y ∷ labels_on leg ps ]) x) 0
    go None h = h
    go (Some y) h = also (same_sense (sense x) (sense y)) _ _ h

module _ {L : Type 0} (sense : L → List ℤ) where
  -- the number of a label in two lists put together
  number_append :
      (ls ms : List L) (x : L) → number_of sense (ls ++ ms) x ≡ cond (eqb (number_of sense ls x) 0) (cond (eqb (number_of sense ms x) 0) 0 (length ls + number_of sense ms x)) (number_of sense ls x)
  number_append [] ms x = grind (arith, nat_tests)
  number_append (y ∷ ys) ms x = grind (arith, nat_tests, number_append ys ms x)

  -- a label that both lists lack joins at the end
  noted_missing :
      (ls ms : List L) (x : L) → number_of sense ls x ≡ 0 → number_of sense ms x ≡ 0 → noted sense (ls ++ ms) (Some x) ≡ ls ++ ms ++ x ∷ []
  noted_missing ls ms x a b =
      let n = number_append ls ms x in
      let none : number_of sense (ls ++ ms) x ≡ 0 = grind (arith, nat_tests) in
      ap (λ (k : ℕ). elim (eqb k 0) as (λ _. List L) [ true ↦ ls ++ ms ++ x ∷ [] | false ↦ ls ++ ms ]) none

  -- a label that one of them has changes nothing
  noted_present :
      (ls ms : List L) (x : L) → (number_of sense ls x ≡ 0 → number_of sense ms x ≡ 0 → ⊥) → noted sense (ls ++ ms) (Some x) ≡ ls ++ ms
  noted_present ls ms x h =
      let n = number_append ls ms x in
      let some : eqb (number_of sense (ls ++ ms) x) 0 ≡ false = grind (arith, nat_tests) in
      ap (λ (b : Bool). elim b as (λ _. List L) [ true ↦ ls ++ ms ++ x ∷ [] | false ↦ ls ++ ms ]) some

-- labels of a legend, legs that are there, and places for some more of them
module _ {L : Type 0} (sense : L → List ℤ) (ls : List L) (leg : ℕ → ℕ → Option L) (ps : List (ℕ × ℕ)) (most : ℕ) (there : length (labels_on leg ps) ≡ length ps) (within : length ps ≤ most) where
  -- the labels of the legend and those of the legs
  abbrev pub all : List L
  all = ls ++ labels_on leg ps

  -- the missing labels have places
  pub all_fit : length all ≤ length ls + most
  all_fit = omega (arith, length-append ls (labels_on leg ps))

  -- a leg that changes nothing fits
  pub stays_fits : (o : Option L) → all ≡ noted sense all o → true ≡ leb (length (noted sense all o)) (length ls + most)
  stays_fits o e = sym (le-leb (length (noted sense all o)) (length ls + most) (omega (arith, ap length e, all_fit)))

  -- a label whose sense is there changes nothing
  pub present_stays :
      (o : Option L) (x : L) → o ≡ Some x → (number_of sense ls x ≡ 0 → number_of sense (labels_on leg ps) x ≡ 0 → ⊥) → all ≡ noted sense all o
  present_stays o x e h = sym (ap (noted sense all) e ∙ noted_present sense ls (labels_on leg ps) x h)

  module _ (u v : ℕ) (x : L) (e : leg u v ≡ Some x) where
    -- the leg is there too
    pub push_there : length (labels_on leg (ps ++ (u, v) ∷ [])) ≡ length (ps ++ (u, v) ∷ [])
    push_there =
        ap length (labels_on_push leg ps u v x e)
        ∙ omega (arith, length-append (labels_on leg ps) (x ∷ []), length-append ps ((u, v) ∷ []))

    -- a label whose sense is lacking joins the missing ones
    pub push_labels :
        number_of sense ls x ≡ 0 → number_of sense (labels_on leg ps) x ≡ 0 → ls ++ labels_on leg (ps ++ (u, v) ∷ []) ≡ noted sense all (leg u v)
    push_labels a b =
        ap (λ (xs : List L). ls ++ xs) (labels_on_push leg ps u v x e)
        ∙ sym (append_assoc ls (labels_on leg ps) (x ∷ []))
        ∙ sym (ap (noted sense all) e ∙ noted_missing sense ls (labels_on leg ps) x a b)

    -- it fits exactly where there is a place
    pub push_fits :
        number_of sense ls x ≡ 0 → number_of sense (labels_on leg ps) x ≡ 0 → ltb (length ps) most ≡ leb (length (noted sense all (leg u v))) (length ls + most)
    push_fits a b =
        let size = sym (ap length (push_labels a b)) ∙ length-append ls (labels_on leg (ps ++ (u, v) ∷ [])) in
        let more = push_there in
        let one = length-append ps ((u, v) ∷ []) in
        grind (arith, nat_tests)
