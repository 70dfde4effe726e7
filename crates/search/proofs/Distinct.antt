-- Lists in which no station stands twice; two such lists with the same members are permutations of
-- each other.
use Rattle.std.proofs.Common.{◌≡◌, ℕ, zero, suc, ◌+◌, Bool, true, false, cond, List, [], ◌∷◌, ◌++◌, map, filter, sym, refl, ◌∙◌, subst, inl, inr, arith}
use Rattle.std.specs.List.{range_with_len}
use Rattle.search.specs.Members.{Apart, Mem}
use Rattle.search.proofs.Filters.{kept_mem}
use Rattle.search.proofs.Members.{map_mem, mem_cast, mem_counting, mem_left, mem_right}
use Rattle.search.proofs.Perms.{Perm, perm_mem, perm_refl, perm_sym}
use Rattle.search.proofs.Perms.Perm.{done, next_to, skip, swap}

-- a permutation of distinct stations is distinct
pub perm_apart : {xs ys : List ℕ} → Perm xs ys → Apart xs → Apart ys
perm_apart done n = n
perm_apart (skip {a} {b} {xs} {ys} e p) n =
    (λ m. n.0 (mem_cast xs e (perm_mem (perm_sym p) b m)), perm_apart p n.1)
perm_apart (swap {a} {b} {c} {d} {xs} e f) n = (off, (λ m. n.0 (inr (mem_cast xs e m)), n.1.1))
  where
    off : Mem c (d ∷ xs) → ⊥
    off (inl h) = n.0 (inl (e ∙ sym h ∙ sym f))
    off (inr m) = n.1.0 (mem_cast xs f m)
perm_apart (next_to p q) n = perm_apart q (perm_apart p n)

-- a member may be taken to the front
pub take_out : (x : ℕ) (ys : List ℕ) → Mem x ys → (zs : List ℕ) × Perm ys (x ∷ zs)
take_out x [] m = elim m [ ]
take_out x (y ∷ ys) (inl e) = (ys, skip (sym e) (perm_refl ys))
take_out x (y ∷ ys) (inr m) =
    let r = take_out x ys m in (y ∷ r.0, next_to (skip refl r.1) (swap refl refl))

-- distinct lists with the same members are permutations of each other
pub apart_perm :
    (xs ys : List ℕ) → Apart xs → Apart ys → ((u : ℕ) → Mem u xs → Mem u ys) →
    ((u : ℕ) → Mem u ys → Mem u xs) → Perm xs ys
apart_perm [] [] n k h j = done
apart_perm [] (y ∷ ys) n k h j = elim (j y (inl refl)) [ ]
apart_perm (x ∷ xs) ys n k h j =
    next_to (skip refl (apart_perm xs zs n.1 out.1 there back))
    (perm_sym (take_out x ys (h x (inl refl))).1)
  where
    zs : List ℕ
    zs = (take_out x ys (h x (inl refl))).0

    out : Apart (x ∷ zs)
    out = perm_apart (take_out x ys (h x (inl refl))).1 k

    there : (u : ℕ) → Mem u xs → Mem u zs
    there u m = pick (perm_mem (take_out x ys (h x (inl refl))).1 u (h u (inr m)))
      where
        pick : Mem u (x ∷ zs) → Mem u zs
        pick (inl e) = absurd (n.0 (mem_cast xs (sym e) m))
        pick (inr r) = r

    back : (u : ℕ) → Mem u zs → Mem u xs
    back u m = pick (j u (perm_mem (perm_sym (take_out x ys (h x (inl refl))).1) u (inr m)))
      where
        pick : Mem u (x ∷ xs) → Mem u xs
        pick (inl e) = absurd (out.0 (mem_cast zs (sym e) m))
        pick (inr r) = r

-- counted numbers are distinct
pub apart_counting : (a n : ℕ) → Apart (range_with_len a n)
apart_counting a zero = tt
apart_counting a (suc n) =
    (λ m. let h = mem_counting (a + 1) n a m in omega arith, apart_counting (a + 1) n)

-- so are images under a one-to-one function
pub apart_map :
    (f : ℕ → ℕ) (xs : List ℕ) → ((u v : ℕ) → Mem u xs → Mem v xs → f u ≡ f v → u ≡ v) → Apart xs →
    Apart (map f xs)
apart_map f [] i n = tt
apart_map f (x ∷ xs) i n = (
  λ m.
      let r = map_mem f (f x) xs m in
      n.0 (mem_cast xs (i x r.0 (inl refl) (inr r.1) r.2) r.1),
  apart_map f xs
      (λ u v a b. i u v (inr a) (inr b)) n.1,
)

-- what a filter keeps of distinct stations is distinct
pub apart_kept : (p : ℕ → Bool) (xs : List ℕ) → Apart xs → Apart (filter p xs)
apart_kept p [] n = tt
apart_kept p (x ∷ xs) n = go (p x) (apart_kept p xs n.1)
  where
    go : (t : Bool) → Apart (filter p xs) → Apart (cond t (x ∷ filter p xs) (filter p xs))
    go true ih = (λ m. n.0 (kept_mem p xs x m).0, ih)
    go false ih = ih

-- two lists that are distinct when put together are distinct, and have no station in common
pub apart_append :
    (xs ys : List ℕ) → Apart (xs ++ ys) → Apart xs × Apart ys × ((u : ℕ) → Mem u xs → Mem u ys → ⊥)
apart_append [] ys n = (tt, n, λ u m k. m)
apart_append (x ∷ xs) ys n =
    let r = apart_append xs ys n.1 in ((λ m. n.0 (mem_left x xs ys m), r.0), r.1, off r.2)
  where
    off : ((u : ℕ) → Mem u xs → Mem u ys → ⊥) → (u : ℕ) → Mem u (x ∷ xs) → Mem u ys → ⊥
    off f u (inl e) k = n.0 (mem_right x xs ys (subst (λ (z : ℕ). Mem z ys) e k))
    off f u (inr m) k = f u m k
