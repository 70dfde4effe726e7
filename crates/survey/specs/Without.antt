-- The layer that takes stations out, by a number whose bits name them.
use Rattle.std.specs.Prelude.{ℕ, ◌/◌, ◌%◌, ◌^◌, ◌≤◌, Bool, true, false, cond, not, List, [], ◌∷◌, length, filter, ◌==◌, slice_index_or}
use Rattle.std.proofs.Common.{arith}
use Rattle.std.specs.List.{range_with_len}
use Rattle.std.proofs.lemmas.List.FromFn.{length-range_with_len}
use Rattle.std.proofs.lemmas.List.{get_or_past}
use Rattle.survey.specs.Networks.{Net, Bounded}

-- a set bit takes its station out
abbrev pub taken_out : ℕ → ℕ → Bool
taken_out mask u = mask / 2 ^ u % 2 == 1

-- whether a station stays
abbrev pub stays : ℕ → ℕ → Bool
stays mask u = not (taken_out mask u)

-- of the first n stations, those that stay, in their old order
unfoldable pub staying : ℕ → ℕ → List ℕ
staying mask n = filter (stays mask) (range_with_len 0 n)

-- how many of the first n stations are taken out
unfoldable pub taken_below : ℕ → ℕ → ℕ
taken_below mask n = length (filter (taken_out mask) (range_with_len 0 n))

-- the old number of a station, where there were n; n itself where there is no such station
unfoldable pub old_station : ℕ → ℕ → ℕ → ℕ
old_station mask n w = slice_index_or (staying mask n) w n

-- the others close up in their old order: station w is the old station that it was
abbrev pub without_means : {L : Type 0} → ℕ → Net L → Net L
without_means mask n =
    record {
      count = length (staying mask n.count);
      kind = λ w. n.kind (old_station mask n.count w);
      leg = λ w x. n.leg (old_station mask n.count w) (old_station mask n.count x);
    }

-- what is kept of a list is no longer than the list
pub kept_at_most : {X : Type 0} (p : X → Bool) (xs : List X) → length (filter p xs) ≤ length xs
kept_at_most p [] = omega arith
kept_at_most p (x ∷ xs) =
    let r = kept_at_most p xs in
    elim (p x) as (λ b. length (cond b (x ∷ filter p xs) (filter p xs)) ≤ length (x ∷ xs)) [
      | true ↦ omega arith
      | false ↦ omega arith
    ]

-- at most as many stay as there were
pub staying_at_most : (mask n : ℕ) → length (staying mask n) ≤ n
unfolding staying
staying_at_most mask n = omega (arith, kept_at_most (stays mask) (range_with_len 0 n), length-range_with_len 0 n)

-- a station past the last was none
pub no_old_station : (mask n w : ℕ) → length (staying mask n) ≤ w → n ≤ old_station mask n w
unfolding old_station
no_old_station mask n w h = omega (arith, get_or_past (staying mask n) w n h)

-- a network without some stations keeps the bounds
pub without_bounded : {L : Type 0} (mask : ℕ) (n : Net L) → Bounded n → Bounded (without_means mask n)
without_bounded mask n b =
    record {
      count_fits = omega (arith, staying_at_most mask n.count, b.count_fits);
      kind_fits = λ u. b.kind_fits (old_station mask n.count u);
      no_kind = λ u h. b.no_kind (old_station mask n.count u) (no_old_station mask n.count u h);
      no_leg_from =
          λ u v h. b.no_leg_from (old_station mask n.count u) (old_station mask n.count v) (no_old_station mask n.count u h);
      no_leg_to =
          λ u v h. b.no_leg_to (old_station mask n.count u) (old_station mask n.count v) (no_old_station mask n.count v h);
    }
