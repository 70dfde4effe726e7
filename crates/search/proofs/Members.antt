-- Membership: in lists put together, mapped and joined, and deciding it.
use Rattle.std.proofs.Common.{◌≡◌, ℕ, zero, suc, ◌+◌, ◌<◌, ◌≤◌, ◌⊎◌, List, [], ◌∷◌, ◌++◌, map, length, sym, refl, ap, subst, inl, inr, arith}
use Rattle.std.proofs.lemmas.Bool.{cases_eq}
use Rattle.std.specs.List.{range_with_len}
use Rattle.search.specs.Members.{Mem}
use Rattle.search.specs.Partitions.{cell_at, joined, lowest}

-- in a list put before or behind another
pub mem_left : {A : Type 0} (x : A) (xs ys : List A) → Mem x xs → Mem x (xs ++ ys)
mem_left x [] ys m = elim m [ ]
mem_left x (y ∷ xs) ys (inl e) = inl e
mem_left x (y ∷ xs) ys (inr m) = inr (mem_left x xs ys m)

pub mem_right : {A : Type 0} (x : A) (xs ys : List A) → Mem x ys → Mem x (xs ++ ys)
mem_right x [] ys m = m
mem_right x (y ∷ xs) ys m = inr (mem_right x xs ys m)

-- in one of two lists put together
pub mem_either : {A : Type 0} (x : A) (xs ys : List A) → Mem x (xs ++ ys) → Mem x xs ⊎ Mem x ys
mem_either x [] ys m = inr m
mem_either x (y ∷ xs) ys (inl e) = inl (inl e)
mem_either x (y ∷ xs) ys (inr m) =
    elim (mem_either x xs ys m) [ inl k ↦ inl (inr k) | inr k ↦ inr k ]

-- the images of members are the members of the mapped list
pub mem_map : {A B : Type 0} (f : A → B) (x : A) (xs : List A) → Mem x xs → Mem (f x) (map f xs)
mem_map f x [] m = elim m [ ]
mem_map f x (y ∷ ys) (inl e) = inl (ap f e)
mem_map f x (y ∷ ys) (inr m) = inr (mem_map f x ys m)

pub map_mem :
    {A B : Type 0} (f : A → B) (y : B) (xs : List A) → Mem y (map f xs) →
    (x : A) × Mem x xs × (y ≡ f x)
map_mem f y [] m = elim m [ ]
map_mem f y (x ∷ xs) (inl e) = (x, inl refl, e)
map_mem f y (x ∷ xs) (inr m) = let r = map_mem f y xs m in (r.0, inr r.1, r.2)

-- the stations of cells and of all cells together
pub mem_joined : (u : ℕ) (c : List ℕ) (s : List (List ℕ)) → Mem u c → Mem c s → Mem u (joined s)
mem_joined u c [] m k = elim k [ ]
mem_joined u c (d ∷ s) m (inl e) = mem_left u d (joined s) (subst (λ (z : List ℕ). Mem u z) e m)
mem_joined u c (d ∷ s) m (inr k) = mem_right u d (joined s) (mem_joined u c s m k)

pub joined_mem : (u : ℕ) (s : List (List ℕ)) → Mem u (joined s) → (c : List ℕ) × Mem c s × Mem u c
joined_mem u [] m = elim m [ ]
joined_mem u (c ∷ s) m = go (joined_mem u s) (mem_either u c (joined s) m)
  where
    go :
        (Mem u (joined s) → (d : List ℕ) × Mem d s × Mem u d) → Mem u c ⊎ Mem u (joined s) →
        (d : List ℕ) × Mem d (c ∷ s) × Mem u d
    go ih (inl k) = (c, inl refl, k)
    go ih (inr k) = let r = ih k in (r.0, inr r.1, r.2)

-- a list with a member has its first
pub lowest_mem : (u : ℕ) (c : List ℕ) → Mem u c → Mem (lowest c) c
lowest_mem u [] m = elim m [ ]
lowest_mem u (x ∷ c) m = inl refl

-- the cell at a place with a station is one of the cells
pub at_mem : (u : ℕ) (i : ℕ) (s : List (List ℕ)) → Mem u (cell_at i s) → Mem (cell_at i s) s
at_mem u i [] m = elim m [ ]
at_mem u zero (c ∷ s) m = inl refl
at_mem u (suc i) (c ∷ s) m = inr (at_mem u i s m)

-- whether a number is in a list
pub member : (x : ℕ) (xs : List ℕ) → Mem x xs ⊎ (Mem x xs → ⊥)
member x [] = inr (λ m. m)
member x (y ∷ ys) = go (cases_eq x y) (member x ys)
  where
    go : (x ≡ y) ⊎ (x ≡ y → ⊥) → Mem x ys ⊎ (Mem x ys → ⊥) → Mem x (y ∷ ys) ⊎ (Mem x (y ∷ ys) → ⊥)
    go (inl e) r = inl (inl e)
    go (inr n) (inl m) = inl (inr m)
    go (inr n) (inr k) = inr (λ z. elim z [ inl e ↦ n e | inr m ↦ k m ])

-- an equal number is in the list too
pub mem_cast : {a b : ℕ} (xs : List ℕ) → a ≡ b → Mem b xs → Mem a xs
mem_cast xs e m = subst (λ (z : ℕ). Mem z xs) (sym e) m

-- which numbers are counted
pub mem_counting : (a n u : ℕ) → Mem u (range_with_len a n) → (a ≤ u) × (u < a + n)
mem_counting a zero u m = elim m [ ]
mem_counting a (suc n) u (inl e) = (omega arith, omega arith)
mem_counting a (suc n) u (inr m) = let h = mem_counting (a + 1) n u m in (omega arith, omega arith)

pub counting_mem : (a n u : ℕ) → a ≤ u → u < a + n → Mem u (range_with_len a n)
counting_mem a zero u h k = absurd (omega arith)
counting_mem a (suc n) u h k = go (cases_eq u a) (λ j. counting_mem (a + 1) n u j (omega arith))
  where
    go :
        (u ≡ a) ⊎ (u ≡ a → ⊥) → (a + 1 ≤ u → Mem u (range_with_len (a + 1) n)) →
        Mem u (a ∷ range_with_len (a + 1) n)
    go (inl e) ih = inl e
    go (inr e) ih = inr (ih (omega arith))

-- a list with a member is not empty
pub mem_length : {A : Type 0} (x : A) (c : List A) → Mem x c → 1 ≤ length c
mem_length x [] m = elim m [ ]
mem_length x (y ∷ c) m = omega arith
