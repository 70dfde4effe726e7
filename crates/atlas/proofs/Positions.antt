-- Networks numbered by their places in a list.
use Rattle.std.proofs.Common.{◌≡◌, ℕ, suc, ◌+◌, ◌<◌, ◌≤◌, ◌⊎◌, List, [], ◌∷◌, ◌++◌, length, sym, refl, ◌∙◌, inl, inr, arith}
use Rattle.survey.specs.Networks.{Net}

module _ {L : Type 0} where
  -- n has the number f in a list of networks, the first of which has the number b
  abbrev pub Placed : ℕ → List (Net L) → ℕ → Net L → Type 0
  Placed b [] f n = ⊥
  Placed b (m ∷ ms) f n = ((f ≡ b) × (m ≡ n)) ⊎ Placed (suc b) ms f n

  -- numbers go from b up to the length
  pub placed_low :
      (b : ℕ) (ms : List (Net L)) (f : ℕ) (n : Net L) → Placed b ms f n → (b ≤ f) × (f < b + length ms)
  placed_low b [] f n p = absurd p
  placed_low b (m ∷ ms) f n (inl e) = (omega (arith, e.0), omega (arith, e.0))
  placed_low b (m ∷ ms) f n (inr p) = let i = placed_low (suc b) ms f n p in (omega (arith, i.0), omega (arith, i.1))

  -- a number is that of one network
  pub placed_one :
      (b : ℕ) (ms : List (Net L)) (f : ℕ) (n k : Net L) → Placed b ms f n → Placed b ms f k → n ≡ k
  placed_one b [] f n k p q = absurd p
  placed_one b (m ∷ ms) f n k (inl p) (inl q) = sym p.1 ∙ q.1
  placed_one b (m ∷ ms) f n k (inl p) (inr q) = absurd (omega (arith, p.0, (placed_low (suc b) ms f k q).0))
  placed_one b (m ∷ ms) f n k (inr p) (inl q) = absurd (omega (arith, q.0, (placed_low (suc b) ms f n p).0))
  placed_one b (m ∷ ms) f n k (inr p) (inr q) = placed_one (suc b) ms f n k p q

  -- it stays so with one network more
  pub placed_left :
      (b : ℕ) (ms : List (Net L)) (x : Net L) (f : ℕ) (n : Net L) → Placed b ms f n → Placed b (ms ++ x ∷ []) f n
  placed_left b [] x f n p = absurd p
  placed_left b (m ∷ ms) x f n (inl e) = inl e
  placed_left b (m ∷ ms) x f n (inr p) = inr (placed_left (suc b) ms x f n p)

  -- which has the next number
  pub placed_last :
      (b : ℕ) (ms : List (Net L)) (x : Net L) (f : ℕ) → f ≡ b + length ms → Placed b (ms ++ x ∷ []) f x
  placed_last b [] x f e = inl (omega arith, refl)
  placed_last b (m ∷ ms) x f e = inr (placed_last (suc b) ms x f (omega arith))

  -- and no other network joins
  pub placed_push :
      (b : ℕ) (ms : List (Net L)) (x : Net L) (f : ℕ) (n : Net L) → Placed b (ms ++ x ∷ []) f n →
      Placed b ms f n ⊎ ((f ≡ b + length ms) × (x ≡ n))
  placed_push b [] x f n (inl e) = inr (omega (arith, e.0), e.1)
  placed_push b [] x f n (inr p) = absurd p
  placed_push b (m ∷ ms) x f n (inl e) = inl (inl e)
  placed_push b (m ∷ ms) x f n (inr p) = go (placed_push (suc b) ms x f n p)
    where
      go :
          Placed (suc b) ms f n ⊎ ((f ≡ suc b + length ms) × (x ≡ n)) →
          Placed b (m ∷ ms) f n ⊎ ((f ≡ b + length (m ∷ ms)) × (x ≡ n))
      go (inl q) = inl (inr q)
      go (inr e) = inr (omega (arith, e.0), e.1)
