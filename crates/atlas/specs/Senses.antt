-- Senses of labels, as a test.
use Rattle.std.specs.Prelude.{Bool, true, false, List, [], ◌∷◌, ℤ, pos, negsuc, ◌==◌}

-- whether two whole numbers are equal
abbrev pub same_int : ℤ → ℤ → Bool
same_int (pos m) (pos n) = m == n
same_int (pos m) (negsuc n) = false
same_int (negsuc m) (pos n) = false
same_int (negsuc m) (negsuc n) = m == n

-- whether two senses are equal
abbrev pub same_sense : List ℤ → List ℤ → Bool
same_sense [] [] = true
same_sense [] (y ∷ ys) = false
same_sense (x ∷ xs) [] = false
same_sense (x ∷ xs) (y ∷ ys) = let r = same_sense xs ys in elim (same_int x y) [ true ↦ r | false ↦ false ]
