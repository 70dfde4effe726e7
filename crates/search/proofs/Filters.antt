-- What a filter keeps of a list.
use Rattle.std.proofs.Common.{◌≡◌, ℕ, ◌+◌, Bool, true, false, cond, not, List, [], ◌∷◌, map, length, filter, sym, refl, ap, ◌∙◌, ap₂, inl, inr}
use Rattle.std.proofs.lemmas.List.Filters.{length-filter_both}
use Rattle.std.proofs.lemmas.Bool.{both_ways}
use Rattle.search.specs.Members.{Mem}

-- a filter before a map, and one behind it
pub kept_map :
    (f : ℕ → ℕ) (p q : ℕ → Bool) (xs : List ℕ) → ((u : ℕ) → Mem u xs → p u ≡ q (f u)) →
    map f (filter p xs) ≡ filter q (map f xs)
kept_map f p q [] h = refl
kept_map f p q (x ∷ xs) h =
    go (p x) (q (f x)) (h x (inl refl)) (kept_map f p q xs (λ u m. h u (inr m)))
  where
    go :
        (t u : Bool) → t ≡ u → map f (filter p xs) ≡ filter q (map f xs) →
        map f (cond t (x ∷ filter p xs) (filter p xs))
        ≡ cond u (f x ∷ filter q (map f xs)) (filter q (map f xs))
    go true true e ih = ap {B = List ℕ} (λ r. f x ∷ r) ih
    go false false e ih = ih
    go true false e ih = absurd (both_ways true e refl)
    go false true e ih = absurd (both_ways true (sym e) refl)

-- what a filter has
pub kept_mem : (p : ℕ → Bool) (xs : List ℕ) (u : ℕ) → Mem u (filter p xs) → Mem u xs × (p u ≡ true)
kept_mem p [] u m = elim m [ ]
kept_mem p (x ∷ xs) u m = go (p x) refl (kept_mem p xs u) m
  where
    go :
        (t : Bool) → p x ≡ t → (Mem u (filter p xs) → Mem u xs × (p u ≡ true)) →
        Mem u (cond t (x ∷ filter p xs) (filter p xs)) → Mem u (x ∷ xs) × (p u ≡ true)
    go true e ih (inl h) = (inl h, ap p h ∙ e)
    go true e ih (inr k) = (inr (ih k).0, (ih k).1)
    go false e ih k = (inr (ih k).0, (ih k).1)

-- a member that passes is kept
pub mem_kept : (p : ℕ → Bool) (xs : List ℕ) (u : ℕ) → Mem u xs → p u ≡ true → Mem u (filter p xs)
mem_kept p [] u m e = elim m [ ]
mem_kept p (x ∷ xs) u m e = go (p x) refl (λ k. mem_kept p xs u k e) m
  where
    go :
        (t : Bool) → p x ≡ t → (Mem u xs → Mem u (filter p xs)) → Mem u (x ∷ xs) →
        Mem u (cond t (x ∷ filter p xs) (filter p xs))
    go true h ih (inl k) = inl k
    go true h ih (inr k) = inr (ih k)
    go false h ih (inl k) = absurd (both_ways (p x) h (ap p (sym k) ∙ e))
    go false h ih (inr k) = ih k

-- tests that agree on the members keep the same
pub kept_ext :
    (p q : ℕ → Bool) (c : List ℕ) → ((u : ℕ) → Mem u c → p u ≡ q u) → filter p c ≡ filter q c
kept_ext p q [] h = refl
kept_ext p q (x ∷ c) h =
    ap₂ (λ (t : Bool) (r : List ℕ). cond t (x ∷ r) r) (h x (inl refl))
    (kept_ext p q c (λ u m. h u (inr m)))

-- where none passes nothing is kept
pub kept_none : (p : ℕ → Bool) (c : List ℕ) → ((u : ℕ) → Mem u c → p u ≡ false) → filter p c ≡ []
kept_none p [] h = refl
kept_none p (x ∷ c) h =
    ap (λ (t : Bool). cond t (x ∷ filter p c) (filter p c)) (h x (inl refl))
    ∙ kept_none p c (λ u m. h u (inr m))

-- what passes and what does not make up the length
pub not_both :
    (keep : ℕ → Bool) (c : List ℕ) →
    length (filter keep c) + length (filter (λ u. not (keep u)) c) ≡ length c
not_both keep c = length-filter_both keep (λ u. not (keep u)) (λ u. refl) c

-- a test that always holds keeps the list
pub kept_all : (c : List ℕ) → filter (λ _. true) c ≡ c
kept_all [] = refl
kept_all (x ∷ c) = ap {B = List ℕ} (λ r. x ∷ r) (kept_all c)

-- where all pass the list is kept
pub kept_true : (f : ℕ → Bool) (c : List ℕ) → ((u : ℕ) → Mem u c → f u ≡ true) → filter f c ≡ c
kept_true f c h = kept_ext f (λ _. true) c h ∙ kept_all c
