-- Stations that are taken out and stations that stay: how many there are, and where an old number stands among the new ones.
use Rattle.std.proofs.Common.{◌≡◌, ℕ, zero, suc, ◌+◌, ◌-◌, ◌/◌, ◌%◌, ◌^◌, ◌<◌, ◌≤◌, min, Bool, true, false, cond, not, eqb, ◌⊎◌, List, [], ◌∷◌, ◌++◌, length, get_or, filter, sym, refl, ap, ◌∙◌, inl, inr, add-zero, mod-lt, zero-add, add-one, arith, length-append, pow_pos, pow_mono}
use native.Mathlib.Nat.{div-eq_of_lt, mod-one, pow-succ'}
use lib.Arith.{mod-mul}
use lib.Count.{ones, ones_in, ones_cat}
use Rattle.std.specs.List.{range_with_len}
use Rattle.std.proofs.lemmas.List.FromFn.{length-range_with_len, get_or-range_with_len}
use Rattle.std.proofs.lemmas.List.Elements.{filter-append}
use Rattle.std.proofs.lemmas.List.Filters.{length-filter_both}
use Rattle.std.proofs.lemmas.List.{get_or_past, get_or_at, get_or-append_right}
use Rattle.std.proofs.lemmas.Bool.{cases_lt, eqb-true}
use Rattle.survey.specs.Without.{taken_out, stays, staying, taken_below, old_station}

-- the first m numbers and then the next k are the first m + k
pub counting_split : (a m k n : ℕ) → m + k ≡ n → range_with_len a n ≡ range_with_len a m ++ range_with_len (a + m) k
counting_split a zero k n e =
    ap (λ (b : ℕ). range_with_len b n) (sym (add-zero a)) ∙ ap (range_with_len (a + 0)) (sym e ∙ zero-add k)
counting_split a (suc m) k zero e = absurd (omega arith)
counting_split a (suc m) k (suc n) e =
    ap {B = List ℕ} (λ r. a ∷ r) (counting_split (a + 1) m k n (omega arith) ∙ ap (λ (b : ℕ). range_with_len (a + 1) m ++ range_with_len b k) (omega arith))

-- a bit counts as 1 where it is set
bit_counts : (d x : ℕ) → d < 2 → length (cond (eqb d 1) (x ∷ []) []) ≡ d
bit_counts zero x h = refl
bit_counts (suc zero) x h = refl
bit_counts (suc (suc d)) x h = absurd (omega arith)

-- a single bit has as many ones as it says
ones_bit : (d : ℕ) → d < 2 → ones d ≡ d
unfolding ones ones_in
ones_bit zero h = refl
ones_bit (suc zero) h = refl
ones_bit (suc (suc d)) h = absurd (omega arith)

-- a test that always holds keeps all
keeps_all : (p : ℕ → Bool) (a n : ℕ) → ((x : ℕ) → a ≤ x → p x ≡ true) → filter p (range_with_len a n) ≡ range_with_len a n
keeps_all p a zero h = refl
keeps_all p a (suc n) h =
    ap (λ (t : Bool). cond t (a ∷ filter p (range_with_len (a + 1) n)) (filter p (range_with_len (a + 1) n))) (h a (omega arith))
    ∙ ap {B = List ℕ} (λ r. a ∷ r) (keeps_all p (a + 1) n (λ x l. h x (omega arith)))

module _ (mask : ℕ) where
  -- each station either stays or is taken out
  pub all_told : (n : ℕ) → length (staying mask n) + taken_below mask n ≡ n
  unfolding staying taken_below
  all_told n =
      let both = length-filter_both (stays mask) (taken_out mask) (λ x. twice (taken_out mask x)) (range_with_len 0 n) in
      both ∙ length-range_with_len 0 n
    where
      twice : (b : Bool) → b ≡ not (not b)
      twice true = refl
      twice false = refl

  -- station k is counted by its bit
  pub taken_more : (k : ℕ) → taken_below mask (suc k) ≡ taken_below mask k + mask / 2 ^ k % 2
  unfolding taken_below
  taken_more k =
      let split = counting_split 0 k 1 (suc k) (omega arith) in
      let put = filter-append (taken_out mask) (range_with_len 0 k) (range_with_len (0 + k) 1) in
      let bit = bit_counts (mask / 2 ^ (0 + k) % 2) (0 + k) (omega arith) in
      ap (λ (xs : List ℕ). length (filter (taken_out mask) xs)) split
      ∙ ap length put
      ∙ length-append (filter (taken_out mask) (range_with_len 0 k)) (filter (taken_out mask) (range_with_len (0 + k) 1))
      ∙ ap (λ (m : ℕ). length (filter (taken_out mask) (range_with_len 0 k)) + m) (bit ∙ ap (λ (m : ℕ). mask / 2 ^ m % 2) (zero-add k))

  -- below station 0 there is none
  none_below : ones 0 ≡ taken_below mask 0
  unfolding ones ones_in taken_below
  none_below = refl

  -- the ones below a station are as many as are taken out below it
  pub ones_low : (k : ℕ) → ones (mask % 2 ^ k) ≡ taken_below mask k
  ones_low zero = ap ones (mod-one mask) ∙ none_below
  ones_low (suc k) =
      let halves = ap (λ (m : ℕ). mask % m) (pow-succ' 2 k) ∙ mod-mul mask {m = 2} {c = 2 ^ k} (omega arith) (pow_pos k) in
      ap ones halves
      ∙ ones_cat k (mask / 2 ^ k % 2) (mask % 2 ^ k) (mod-lt mask (pow_pos k))
      ∙ ap (λ (m : ℕ). ones (mask / 2 ^ k % 2) + m) (ones_low k)
      ∙ ap (λ (m : ℕ). m + taken_below mask k) (ones_bit (mask / 2 ^ k % 2) (omega arith))
      ∙ (let e = taken_more k in omega arith)

  -- past the last bit no station is taken out
  pub none_past : (k u : ℕ) → mask < 2 ^ k → k ≤ u → taken_out mask u ≡ false
  none_past k u h l =
      let p : 2 ^ k ≤ 2 ^ u = pow_mono l in
      let lt : mask < 2 ^ u = omega arith in
      ap (λ (m : ℕ). eqb (m % 2) 1) (div-eq_of_lt lt)

  -- from the last bit on all stay
  staying_past : (k n : ℕ) → mask < 2 ^ k → k ≤ n → staying mask n ≡ staying mask k ++ range_with_len k (n - k)
  unfolding staying
  staying_past k n h l =
      let split = counting_split 0 k (n - k) n (omega arith) in
      ap (filter (stays mask)) split
      ∙ filter-append (stays mask) (range_with_len 0 k) (range_with_len (0 + k) (n - k))
      ∙ ap (λ (xs : List ℕ). filter (stays mask) (range_with_len 0 k) ++ xs) (keeps_all (stays mask) (0 + k) (n - k) (λ x b. ap not (none_past k x h (omega arith))) ∙ ap (λ (b : ℕ). range_with_len b (n - k)) (zero-add k))

  -- all ones of the mask are below a station past the last bit
  pub taken_past : (k n : ℕ) → mask < 2 ^ k → k ≤ n → taken_below mask n ≡ taken_below mask k
  taken_past k n h l =
      let e = ap length (staying_past k n h l) ∙ length-append (staying mask k) (range_with_len k (n - k)) in
      omega (arith, all_told n, all_told k, length-range_with_len k (n - k))

  -- a station that stays, with w others that stay below it, is the old number of w
  pub old_here : (n u w : ℕ) → u < n → taken_out mask u ≡ false → u - taken_below mask u ≡ w → u ≡ old_station mask n w
  unfolding old_station staying
  old_here n u w l out e =
      let split = counting_split 0 u (suc (n - suc u)) n (omega arith) in
      let first : filter (stays mask) (range_with_len (0 + u) (suc (n - suc u))) ≡ u ∷ filter (stays mask) (range_with_len (u + 1) (n - suc u)) = ap (λ (b : ℕ). filter (stays mask) (range_with_len b (suc (n - suc u)))) (zero-add u) ∙ ap (λ (t : Bool). cond (not t) (u ∷ filter (stays mask) (range_with_len (u + 1) (n - suc u))) (filter (stays mask) (range_with_len (u + 1) (n - suc u)))) out in
      let whole = ap (filter (stays mask)) split ∙ filter-append (stays mask) (range_with_len 0 u) (range_with_len (0 + u) (suc (n - suc u))) ∙ ap (λ (xs : List ℕ). filter (stays mask) (range_with_len 0 u) ++ xs) first in
      let told = all_told u in
      sym (ap (λ (xs : List ℕ). get_or xs w n) whole ∙ get_or_at (filter (stays mask) (range_with_len 0 u)) u (filter (stays mask) (range_with_len (u + 1) (n - suc u))) n w (omega arith))

  -- past the stations that the mask reaches, old and new numbers differ by all that are taken out
  pub old_later :
      (k n w : ℕ) → mask < 2 ^ k → min n k - taken_below mask (min n k) ≤ w → w + taken_below mask n < n → w + taken_below mask n ≡ old_station mask n w
  unfolding old_station
  old_later k n w h l t = go (cases_lt k n)
    where
      go : (k < n) ⊎ (n ≤ k) → w + taken_below mask n ≡ get_or (staying mask n) w n
      go (inr b) =
          let e : min n k ≡ n = omega arith in
          let f = ap (taken_below mask) e in
          absurd (omega (arith, all_told n))
      go (inl b) =
          let e : min n k ≡ k = omega arith in
          let f = ap (taken_below mask) e in
          let past = taken_past k n h (omega arith) in
          let told = all_told k in
          let size = length (staying mask k) in
          sym
          (ap (λ (xs : List ℕ). get_or xs w n) (staying_past k n h (omega arith))
          ∙ get_or-append_right (staying mask k) (range_with_len k (n - k)) size w n refl (omega arith)
          ∙ get_or-range_with_len k (n - k) (w - size) n (omega arith)
          ∙ omega arith)

  -- past the last station there is no old number
  pub old_none : (n w : ℕ) → n ≤ w + taken_below mask n → n ≡ old_station mask n w
  unfolding old_station
  old_none n w h = sym (get_or_past (staying mask n) w n (omega (arith, all_told n)))

  -- past the stations below k that are looked through, the old number is told by how many are taken out in all
  pub old_past :
      (k n w : ℕ) → mask < 2 ^ k → min n k - taken_below mask (min n k) ≤ w → min (w + taken_below mask n) n ≡ old_station mask n w
  old_past k n w h l = go (cases_lt (w + taken_below mask n) n)
    where
      go : (w + taken_below mask n < n) ⊎ (n ≤ w + taken_below mask n) → min (w + taken_below mask n) n ≡ old_station mask n w
      go (inl t) = let e : min (w + taken_below mask n) n ≡ w + taken_below mask n = omega arith in e ∙ old_later k n w h l t
      go (inr b) = let e : min (w + taken_below mask n) n ≡ n = omega arith in e ∙ old_none n w b

  -- where no station up to u has the number w, none up to the next has
  pub passes_out : (u w : ℕ) → taken_out mask u ≡ true → u - taken_below mask u ≤ w → u + 1 - taken_below mask (u + 1) ≤ w
  passes_out u w out l =
      let bit = eqb-true (mask / 2 ^ u % 2) 1 out in
      let more = ap (taken_below mask) (add-one u) ∙ taken_more u in
      omega arith

  pub passes_other : (u w : ℕ) → (u - taken_below mask u ≡ w → ⊥) → u - taken_below mask u ≤ w → u + 1 - taken_below mask (u + 1) ≤ w
  passes_other u w other l =
      let more = ap (taken_below mask) (add-one u) ∙ taken_more u in
      omega arith
