-- General facts of lists and tests.
use Rattle.std.proofs.Common.{◌≡◌, ℕ, ◌≤◌, Bool, true, false, not, ◌&&◌, List, [], ◌∷◌, ◌++◌, map, length, sym, refl, ap, ◌∙◌, ap₂, inl, inr, append_assoc, arith}
use Rattle.std.proofs.lemmas.Bool.{both_ways}
use Rattle.search.specs.Members.{Mem}
use Rattle.search.specs.Partitions.{joined, nonempty}

-- a test and one that always or never holds
pub and_true : (a : Bool) → (a && true) ≡ a
and_true true = refl
and_true false = refl

pub and_false : (a : Bool) → (a && false) ≡ false
and_false true = refl
and_false false = refl

-- heads and tails of equal lists
pub heads : {A : Type 0} {a b : A} {xs ys : List A} → a ∷ xs ≡ b ∷ ys → a ≡ b
heads e = cc

pub tails : {A : Type 0} {a b : A} {xs ys : List A} → a ∷ xs ≡ b ∷ ys → xs ≡ ys
tails e = cc

-- a list of one, told by its length and one member
pub lone_list : {A : Type 0} (x : List A) → length x ≤ 1 → (u : A) → Mem u x → x ≡ u ∷ []
lone_list [] l u m = elim m [ ]
lone_list {A} (z ∷ []) l u (inl e) = ap {B = List A} (λ q. q ∷ []) (sym e)
lone_list (z ∷ []) l u (inr m) = elim m [ ]
lone_list (z ∷ w ∷ x) l u m = absurd (omega arith)

-- the stations of two lists of cells put together
pub joined_append : (s t : List (List ℕ)) → joined (s ++ t) ≡ joined s ++ joined t
joined_append [] t = refl
joined_append (c ∷ s) t =
    ap (λ (r : List ℕ). c ++ r) (joined_append s t) ∙ sym (append_assoc c (joined s) (joined t))

-- a list that has nothing is empty
pub nonempty_false : (k : List ℕ) → nonempty k ≡ false → k ≡ []
nonempty_false [] e = refl
nonempty_false (x ∷ k) e = absurd (both_ways true e refl)

-- a test whose opposite holds fails
pub not_true_false : (t : Bool) → not t ≡ true → t ≡ false
not_true_false true e = absurd (both_ways true (sym e) refl)
not_true_false false e = refl

-- a function that fixes each member fixes the list
pub map_fixed : (f : ℕ → ℕ) (c : List ℕ) → ((u : ℕ) → Mem u c → f u ≡ u) → map f c ≡ c
map_fixed f [] h = refl
map_fixed f (x ∷ c) h = ap₂ {B = List ℕ} ◌∷◌ (h x (inl refl)) (map_fixed f c (λ u m. h u (inr m)))

-- an empty list is no other
pub no_path : {A : Type 0} (x : A) (xs : List A) → [] ≡ x ∷ xs → ⊥
no_path x xs e = let z : ◌≡◌ {A = ℕ} 0 1 = cc in omega arith

-- equal lists whose fronts are equally long have equal fronts and equal rests
pub append_both :
    {A : Type 0} (x y xs ys : List A) → length x ≡ length y → x ++ xs ≡ y ++ ys →
    (x ≡ y) × (xs ≡ ys)
append_both [] [] xs ys l e = (refl, e)
append_both [] (b ∷ y) xs ys l e = absurd (omega arith)
append_both (a ∷ x) [] xs ys l e = absurd (omega arith)
append_both {A} (a ∷ x) (b ∷ y) xs ys l e =
    let r = append_both x y xs ys (omega arith) (tails e) in
    (ap₂ {B = List A} ◌∷◌ (heads e) r.0, r.1)
