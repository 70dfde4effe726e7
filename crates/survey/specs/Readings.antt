-- Readings of tape, compass and clinometer: what a reading says, how it is turned, and which numbers make one.
use Rattle.std.specs.Prelude.{ℕ, ◌+◌, ◌-◌, min, cond, ◌&&◌, List, [], ◌∷◌, ◌++◌, ℤ, pos, negsuc, neg_ℤ, Ok, Err, codes, decimal, Result, int_le, nat_le}
use Rattle.std.specs.Int.{int_min, int_max}
use Rattle.std.specs.Fmt.{signed_decimal}
use Rattle.survey.specs.declared.reading.Reading.{Reading}
use Rattle.survey.specs.declared.refusal.Refusal.{Refusal}
use Rattle.survey.specs.declared.refusal.Refusal.TheVariants.{OutOfRange}

-- a length is 0 to 1,000,000 cm; one beyond counts as the longest
abbrev pub as_length : ℕ → ℕ
as_length n = min n 1000000

-- a bearing is 0 to 3,599 tenths of a degree; one beyond counts as the last
abbrev pub as_bearing : ℕ → ℕ
as_bearing n = min n 3599

-- a gradient is -900 to 900 tenths of a degree; one beyond counts as the nearer end
abbrev pub as_gradient : ℤ → ℤ
as_gradient z = int_max (negsuc 899) (int_min z (pos 900))

-- the reading as it counts: each number at the end of its range where it lies beyond
abbrev pub reading_within : Reading → Reading
reading_within r =
    record { length = as_length r.length; bearing = as_bearing r.bearing; gradient = as_gradient r.gradient }

-- the sense of a reading is its three numbers
abbrev pub reading_sense : Reading → List ℤ
reading_sense r = pos (as_length r.length) ∷ pos (as_bearing r.bearing) ∷ as_gradient r.gradient ∷ []

-- the bearing from the far end: half a turn more, less a whole turn where that is reached
abbrev pub bearing_turned : ℕ → ℕ
bearing_turned b = cond (nat_le 3600 (b + 1800)) (b + 1800 - 3600) (b + 1800)

-- the reading from the far end: its length, the opposite bearing, the opposite gradient
abbrev pub reading_turned : Reading → Reading
reading_turned r =
    record {
      length = as_length r.length;
      bearing = bearing_turned (as_bearing r.bearing);
      gradient = neg_ℤ (as_gradient r.gradient);
    }

-- three numbers of which one is outside its range make no reading
abbrev pub reading_made : ℕ → ℕ → ℤ → Result Reading Refusal
reading_made l b g =
    cond
    (nat_le l 1000000 && (nat_le b 3599 && (int_le (negsuc 899) g && int_le g (pos 900))))
    (Ok (record { length = l; bearing = b; gradient = g }))
    (Err OutOfRange)

-- a reading as it is printed, in centimetres and tenths of a degree
abbrev pub reading_text : Reading → List ℕ
reading_text r =
    decimal r.length ++ (codes " cm, bearing " ++ (decimal r.bearing ++ (codes ", gradient " ++ signed_decimal r.gradient)))
