-- The tests for equal lists say whether the lists are equal.
use Rattle.std.proofs.Common.{◌≡◌, ℕ, Bool, true, false, List, [], ◌∷◌, sym, refl, ap, ◌∙◌, ap₂, arith}
use Rattle.std.proofs.lemmas.Bool.{both_ways}
use Rattle.search.specs.Following.{same_lists}
use Rattle.search.specs.Keys.{same_list}

-- lists found the same are equal, and equal lists are found the same
pub same_list_true : (xs ys : List ℕ) → same_list xs ys ≡ true → xs ≡ ys
same_list_true [] [] e = refl
same_list_true [] (y ∷ ys) e = grind arith
same_list_true (x ∷ xs) [] e = grind arith
same_list_true (x ∷ xs) (y ∷ ys) e = let ih = same_list_true xs ys in grind arith

pub same_list_refl : (xs : List ℕ) → same_list xs xs ≡ true
same_list_refl [] = refl
same_list_refl (x ∷ xs) = let ih = same_list_refl xs in grind arith

-- the same for lists of lists
same_lists_refl : (xs : List (List ℕ)) → same_lists xs xs ≡ true
same_lists_refl [] = refl
same_lists_refl (x ∷ xs) = let h = same_list_refl x in let ih = same_lists_refl xs in grind arith

pub same_lists_eq : (xs ys : List (List ℕ)) → xs ≡ ys → same_lists xs ys ≡ true
same_lists_eq xs ys e = ap (λ (z : List (List ℕ)). same_lists z ys) e ∙ same_lists_refl ys

-- lists of lists found the same are equal
pub same_lists_true : (xs ys : List (List ℕ)) → same_lists xs ys ≡ true → xs ≡ ys
same_lists_true [] [] e = refl
same_lists_true [] (y ∷ ys) e = absurd (both_ways true (sym e) refl)
same_lists_true (x ∷ xs) [] e = absurd (both_ways true (sym e) refl)
same_lists_true (x ∷ xs) (y ∷ ys) e = go (same_list x y) refl e (same_lists_true xs ys)
  where
    go :
        (t : Bool) → same_list x y ≡ t → elim t [ true ↦ same_lists xs ys | false ↦ false ] ≡ true →
        (same_lists xs ys ≡ true → xs ≡ ys) → x ∷ xs ≡ y ∷ ys
    go true p q ih = ap₂ {B = List (List ℕ)} ◌∷◌ (same_list_true x y p) (ih q)
    go false p q ih = absurd (both_ways true (sym q) refl)
