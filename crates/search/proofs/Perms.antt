-- Permutations of lists of stations, and what does not see the order of a list.
use Rattle.std.proofs.Common.{◌≡◌, ℕ, suc, Bool, true, false, cond, not, List, [], ◌∷◌, ◌++◌, map, length, filter, sym, refl, ap, ◌∙◌, subst, inl, inr}
use Rattle.std.proofs.lemmas.Bool.{both_ways}
use Rattle.search.specs.Members.{Mem}

-- one list is the other in another order
pub data Perm : List ℕ → List ℕ → Type 0 where
  done : Perm [] []
  skip : {a b : ℕ} {xs ys : List ℕ} → a ≡ b → Perm xs ys → Perm (a ∷ xs) (b ∷ ys)
  swap : {a b c d : ℕ} {xs : List ℕ} → a ≡ d → b ≡ c → Perm (a ∷ b ∷ xs) (c ∷ d ∷ xs)
  next_to : {xs ys zs : List ℕ} → Perm xs ys → Perm ys zs → Perm xs zs

-- any list is its own permutation, and permutations lead back
pub perm_refl : (xs : List ℕ) → Perm xs xs
perm_refl [] = done
perm_refl (x ∷ xs) = skip refl (perm_refl xs)

pub perm_eq : {xs ys : List ℕ} → xs ≡ ys → Perm xs ys
perm_eq {xs} e = subst (λ (z : List ℕ). Perm xs z) e (perm_refl xs)

pub perm_sym : {xs ys : List ℕ} → Perm xs ys → Perm ys xs
perm_sym done = done
perm_sym (skip e p) = skip (sym e) (perm_sym p)
perm_sym (swap e f) = swap (sym f) (sym e)
perm_sym (next_to p q) = next_to (perm_sym q) (perm_sym p)

-- permutations have the same members and the same length
pub perm_mem : {xs ys : List ℕ} → Perm xs ys → (x : ℕ) → Mem x xs → Mem x ys
perm_mem done x m = m
perm_mem (skip e p) x (inl f) = inl (f ∙ e)
perm_mem (skip e p) x (inr m) = inr (perm_mem p x m)
perm_mem (swap e f) x (inl h) = inr (inl (h ∙ e))
perm_mem (swap e f) x (inr (inl h)) = inl (h ∙ f)
perm_mem (swap e f) x (inr (inr m)) = inr (inr m)
perm_mem (next_to p q) x m = perm_mem q x (perm_mem p x m)

pub perm_length : {xs ys : List ℕ} → Perm xs ys → length xs ≡ length ys
perm_length done = refl
perm_length (skip e p) = ap suc (perm_length p)
perm_length (swap e f) = refl
perm_length (next_to p q) = perm_length p ∙ perm_length q

-- mapped, and with more before or behind
pub perm_map : (f : ℕ → ℕ) {xs ys : List ℕ} → Perm xs ys → Perm (map f xs) (map f ys)
perm_map f done = done
perm_map f (skip e p) = skip (ap f e) (perm_map f p)
perm_map f (swap d e) = swap (ap f d) (ap f e)
perm_map f (next_to p q) = next_to (perm_map f p) (perm_map f q)

pub perm_right : (zs : List ℕ) {xs ys : List ℕ} → Perm xs ys → Perm (xs ++ zs) (ys ++ zs)
perm_right zs done = perm_refl zs
perm_right zs (skip e p) = skip e (perm_right zs p)
perm_right zs (swap d e) = swap d e
perm_right zs (next_to p q) = next_to (perm_right zs p) (perm_right zs q)

pub perm_left : (zs : List ℕ) {xs ys : List ℕ} → Perm xs ys → Perm (zs ++ xs) (zs ++ ys)
perm_left [] p = p
perm_left (z ∷ zs) p = skip refl (perm_left zs p)

pub perm_both : {xs ys zs ws : List ℕ} → Perm xs ys → Perm zs ws → Perm (xs ++ zs) (ys ++ ws)
perm_both {xs} {ys} {zs} {ws} p q = next_to (perm_right zs p) (perm_left ys q)

-- a station in the middle may stand first
pub perm_middle : (x : ℕ) (xs ys : List ℕ) → Perm (xs ++ x ∷ ys) (x ∷ (xs ++ ys))
perm_middle x [] ys = perm_refl (x ∷ ys)
perm_middle x (y ∷ xs) ys = next_to (skip refl (perm_middle x xs ys)) (swap refl refl)

-- a filter
perm_cond :
    (t u : Bool) → t ≡ u → {a b : ℕ} {xs ys : List ℕ} → a ≡ b → Perm xs ys →
    Perm (cond t (a ∷ xs) xs) (cond u (b ∷ ys) ys)
perm_cond true true q e p = skip e p
perm_cond false false q e p = p
perm_cond true false q e p = absurd (both_ways true q refl)
perm_cond false true q e p = absurd (both_ways true (sym q) refl)

perm_conds :
    (xs : List ℕ) (t u v w : Bool) → t ≡ w → u ≡ v → {a b c d : ℕ} → a ≡ d → b ≡ c →
    Perm (cond t (a ∷ cond u (b ∷ xs) xs) (cond u (b ∷ xs) xs))
    (cond v (c ∷ cond w (d ∷ xs) xs) (cond w (d ∷ xs) xs))
perm_conds xs true true true true p q e f = swap e f
perm_conds xs true false false true p q e f = skip e (perm_refl _)
perm_conds xs false true true false p q e f = skip f (perm_refl _)
perm_conds xs false false false false p q e f = perm_refl _
perm_conds xs true u v false p q e f = absurd (both_ways true p refl)
perm_conds xs false u v true p q e f = absurd (both_ways true (sym p) refl)
perm_conds xs true true false true p q e f = absurd (both_ways true q refl)
perm_conds xs true false true true p q e f = absurd (both_ways true (sym q) refl)
perm_conds xs false true false false p q e f = absurd (both_ways true q refl)
perm_conds xs false false true false p q e f = absurd (both_ways true (sym q) refl)

-- a filter of permutations
pub perm_kept : (p : ℕ → Bool) {xs ys : List ℕ} → Perm xs ys → Perm (filter p xs) (filter p ys)
perm_kept p done = done
perm_kept p (skip {a} {b} e q) = perm_cond (p a) (p b) (ap p e) e (perm_kept p q)
perm_kept p (swap {a} {b} {c} {d} {xs} e f) =
    perm_conds (filter p xs) (p a) (p b) (p c) (p d) (ap p e) (ap p f) e f
perm_kept p (next_to q r) = next_to (perm_kept p q) (perm_kept p r)

-- what does not pass and what passes make up the list
pub perm_split :
    (p : ℕ → Bool) (xs : List ℕ) → Perm xs (filter (λ x. not (p x)) xs ++ filter p xs)
perm_split p [] = done
perm_split p (x ∷ xs) = go (p x) (perm_split p xs)
  where
    go :
        (t : Bool) → Perm xs (filter (λ x. not (p x)) xs ++ filter p xs) →
        Perm (x ∷ xs)
        (cond (not t) (x ∷ filter (λ x. not (p x)) xs) (filter (λ x. not (p x)) xs)
        ++ cond t (x ∷ filter p xs) (filter p xs))
    go true q =
        next_to (skip refl q)
        (perm_sym (perm_middle x (filter (λ x. not (p x)) xs) (filter p xs)))
    go false q = skip refl q
