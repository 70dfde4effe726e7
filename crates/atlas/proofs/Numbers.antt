-- Numbers of labels: senses are compared by a test, and a number is the place of the first label that has the sense.
use Rattle.std.proofs.Common.{◌≡◌, ℕ, suc, ◌+◌, Bool, true, false, not, cond, eqb, ltb, List, [], ◌∷◌, length, ℤ, Some, None, Decides, refl, arith}
use Rattle.std.specs.List.{position, position_or_len}
use Rattle.std.proofs.lemmas.Bool.Decides.{nat_tests}
use Rattle.atlas.specs.Legends.{number_of}
use Rattle.atlas.specs.Senses.{same_sense}
use Rattle.atlas.proofs.Senses.{sense_same, sense_refl}

-- the test of senses tells whether they are equal
pub sense_decides : (xs ys : List ℤ) → Decides (same_sense xs ys) (xs ≡ ys)
sense_decides xs ys = (sense_same xs ys, (λ e. rw (← e) (sense_refl xs)))

module _ {L : Type 0} (sense : L → List ℤ) (x : L) where
  -- whether a label has the sense of x
  abbrev pub alike : L → Bool
  alike y = same_sense (sense x) (sense y)

  -- the number of a label by the place of the first that has its sense
  pub number_at : (ls : List L) → number_of sense ls x ≡ cond (ltb (position_or_len alike ls) (length ls)) (position_or_len alike ls + 1) 0
  number_at [] = refl
  number_at (y ∷ ys) = go (alike y) (number_at ys)
    where
      go :
          (b : Bool) → number_of sense ys x ≡ cond (ltb (position_or_len alike ys) (length ys)) (position_or_len alike ys + 1) 0 →
          elim b as (λ _. ℕ) [ true ↦ 1 | false ↦ elim (eqb (number_of sense ys x) 0) as (λ _. ℕ) [ true ↦ 0 | false ↦ suc (number_of sense ys x) ] ]
          ≡ cond (ltb (cond (not b) (1 + position_or_len alike ys) 0) (suc (length ys))) (cond (not b) (1 + position_or_len alike ys) 0 + 1) 0
      go true h = grind (arith, nat_tests)
      go false h = grind (arith, nat_tests)

  -- the number by the place, where there is one
  pub number_found : (ls : List L) (i : ℕ) → Some i ≡ position alike ls → i + 1 ≡ number_of sense ls x
  number_found ls i e = go (ltb (position_or_len alike ls) (length ls)) (number_at ls) e
    where
      go :
          (b : Bool) → number_of sense ls x ≡ cond b (position_or_len alike ls + 1) 0 → Some i ≡ cond b (Some (position_or_len alike ls)) None →
          i + 1 ≡ number_of sense ls x
      go true n e = let s : i ≡ position_or_len alike ls = cc in omega arith
      go false n e = let z : ◌≡◌ {A = ℕ} 0 1 = cc in absurd (omega arith)

  -- and 0 where there is none
  pub number_lacking : (ls : List L) → None ≡ position alike ls → 0 ≡ number_of sense ls x
  number_lacking ls e = go (ltb (position_or_len alike ls) (length ls)) (number_at ls) e
    where
      go :
          (b : Bool) → number_of sense ls x ≡ cond b (position_or_len alike ls + 1) 0 → None ≡ cond b (Some (position_or_len alike ls)) None →
          0 ≡ number_of sense ls x
      go true n e = let z : ◌≡◌ {A = ℕ} 0 1 = cc in absurd (omega arith)
      go false n e = omega arith
