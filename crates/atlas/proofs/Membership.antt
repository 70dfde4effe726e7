-- Membership in a list: where members stand, and the members of a longer list.
use Rattle.std.proofs.Common.{◌≡◌, ℕ, zero, suc, ◌+◌, ◌<◌, ◌≤◌, Bool, true, false, eqb, ◌⊎◌, List, [], ◌∷◌, ◌++◌, refl, ap, subst, inl, inr, arith}
use Rattle.std.specs.List.{range_with_len}
use Rattle.std.proofs.lemmas.Bool.{eqb-true}
use Rattle.std.proofs.lemmas.Bool.Decides.{nat_tests}

-- x is in the list
abbrev pub In : {A : Type 0} → A → List A → Type 0
In x [] = ⊥
In x (y ∷ ys) = (y ≡ x) ⊎ In x ys

-- what stands between two lists is in the whole
pub in_middle : {A : Type 0} (x : A) (ws bs : List A) → In x (ws ++ x ∷ bs)
in_middle x [] bs = inl refl
in_middle x (w ∷ ws) bs = inr (in_middle x ws bs)

-- a member of a list with y at its end is in the list, or is y
pub in_push : {A : Type 0} (x y : A) (xs : List A) → In x (xs ++ y ∷ []) → In x xs ⊎ (y ≡ x)
in_push x y [] (inl e) = inr e
in_push x y [] (inr m) = absurd m
in_push x y (z ∷ zs) (inl e) = inl (inl e)
in_push x y (z ∷ zs) (inr m) = elim (in_push x y zs m) [ inl k ↦ inl (inr k) | inr e ↦ inr e ]

-- a member stays one
pub in_left : {A : Type 0} (x y : A) (xs : List A) → In x xs → In x (xs ++ y ∷ [])
in_left x y [] m = absurd m
in_left x y (z ∷ zs) (inl e) = inl e
in_left x y (z ∷ zs) (inr m) = inr (in_left x y zs m)

-- what holds of each member, and of y, holds of each member with y at the end
pub in_each :
    {A : Type 0} (P : A → Type 0) (y : A) (xs : List A) → ((x : A) → In x xs → P x) → P y →
    (x : A) → In x (xs ++ y ∷ []) → P x
in_each P y xs h k x i = elim (in_push x y xs i) [ inl m ↦ h x m | inr e ↦ subst P e k ]

-- a list parts at each of its members
pub in_split : {A : Type 0} (x : A) (xs : List A) → In x xs → (ws bs : List A) × (xs ≡ ws ++ x ∷ bs)
in_split x [] m = absurd m
in_split x (y ∷ ys) (inl e) = ([], ys, ap (λ z. z ∷ ys) e)
in_split x (y ∷ ys) (inr m) = let r = in_split x ys m in (y ∷ r.0, r.1, ap (λ l. y ∷ l) r.2)

-- the numbers from a on are those from a up to a + n
pub in_counting : (x a n : ℕ) → a ≤ x → x < a + n → In x (range_with_len a n)
in_counting x a zero l h = absurd (omega arith)
in_counting x a (suc n) l h = go (eqb a x) refl (λ k. in_counting x (a + 1) n k (omega arith))
  where
    go :
        (t : Bool) → eqb a x ≡ t → (a + 1 ≤ x → In x (range_with_len (a + 1) n)) →
        (a ≡ x) ⊎ In x (range_with_len (a + 1) n)
    go true e i = inl (eqb-true a x e)
    go false e i = inr (i (grind (arith, nat_tests)))

pub counting_in : (x a n : ℕ) → In x (range_with_len a n) → (a ≤ x) × (x < a + n)
counting_in x a zero m = absurd m
counting_in x a (suc n) (inl e) = (omega arith, omega arith)
counting_in x a (suc n) (inr m) = let i = counting_in x (a + 1) n m in (omega (arith, i.0), omega (arith, i.1))
