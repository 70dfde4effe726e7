-- Grades: what a grade says, and which numbers make one.
use Rattle.std.specs.Prelude.{ℕ, min, max, cond, ◌&&◌, List, [], ◌∷◌, ◌++◌, ℤ, pos, Ok, Err, codes, decimal, Result, nat_le}
use Rattle.survey.specs.declared.grade.Grade.{Grade}
use Rattle.survey.specs.declared.refusal.Refusal.{Refusal}
use Rattle.survey.specs.declared.refusal.Refusal.TheVariants.{OutOfRange}

-- a grade is a number from 1 to 255; one beyond counts as the nearer end
abbrev pub as_grade : ℕ → ℕ
as_grade n = max 1 (min n 255)

-- the sense of a grade is its number
abbrev pub grade_sense : Grade → List ℤ
grade_sense g = pos (as_grade g.value) ∷ []

-- a number outside 1 to 255 makes no grade
abbrev pub grade_made : ℕ → Result Grade Refusal
grade_made n = cond (nat_le 1 n && nat_le n 255) (Ok (record { value = n })) (Err OutOfRange)

-- a grade as it is printed
abbrev pub grade_text : Grade → List ℕ
grade_text g = codes "grade " ++ decimal g.value
