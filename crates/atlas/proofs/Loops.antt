-- The lowest station with a leg to itself, found by going through the stations.
use Rattle.std.proofs.Common.{◌≡◌, ℕ, zero, suc, ◌+◌, ◌-◌, ◌<◌, cond, List, [], ◌∷◌, ℤ, is_some, Some, None, Option, refl, ap, arith}
use Rattle.std.specs.List.{find, range_with_len}
use Rattle.std.specs.Option.{option_map}
use Rattle.atlas.specs.Calls.{first_loop}
use Rattle.survey.specs.Networks.{Net}

-- of the numbers from a on, the first
pub counting_on : (a k : ℕ) → 0 < k → range_with_len a k ≡ a ∷ range_with_len (a + 1) (k - 1)
counting_on a zero h = absurd (omega arith)
counting_on a (suc k) h = ap {B = List ℕ} (λ r. a ∷ range_with_len (a + 1) r) (omega arith)

-- a number that is kept as it is
pub unmapped : (o : Option ℕ) → option_map (λ (u : ℕ). u) o ≡ o
unmapped None = refl
unmapped (Some u) = refl

module _ {L : Type 0} (sense : L → List ℤ) (n : Net L) where
  -- the first of some stations that has a leg to itself
  pub loop_found : (us : List ℕ) → find (λ u. is_some (n.leg u u)) us ≡ first_loop sense n us
  loop_found [] = refl
  loop_found (u ∷ us) = go (n.leg u u) (loop_found us)
    where
      go :
          (o : Option L) → find (λ v. is_some (n.leg v v)) us ≡ first_loop sense n us →
          cond (is_some o) (Some u) (find (λ v. is_some (n.leg v v)) us) ≡ (elim o as (λ _. Option ℕ) [ None ↦ first_loop sense n us | Some x ↦ Some u ])
      go None h = h
      go (Some x) h = refl

  -- what is found is one of the stations
  pub loop_below : (a k u : ℕ) → first_loop sense n (range_with_len a k) ≡ Some u → u < a + k
  loop_below a zero u e = let z : ◌≡◌ {A = ℕ} 0 1 = cc in absurd (omega arith)
  loop_below a (suc k) u e = go (n.leg a a) e (loop_below (a + 1) k u)
    where
      go :
          (p : Option L) → (elim p as (λ _. Option ℕ) [ None ↦ first_loop sense n (range_with_len (a + 1) k) | Some x ↦ Some a ]) ≡ Some u → (first_loop sense n (range_with_len (a + 1) k) ≡ Some u → u < a + 1 + k) → u < a + suc k
      go None t ih = let r = ih t in omega arith
      go (Some x) t ih = let s : a ≡ u = cc in omega arith
