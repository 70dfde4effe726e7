-- A map of the numbers below n into themselves that is one-to-one is onto.
use Rattle.std.proofs.Common.{◌≡◌, ℕ, zero, suc, ◌<◌, cond, eqb, ◌⊎◌, sym, ◌∙◌, subst, inl, inr, arith}
use Rattle.std.proofs.lemmas.Bool.Decides.{nat_tests}

-- f keeps to the numbers below n
abbrev pub Keeps : ℕ → (ℕ → ℕ) → Type 0
Keeps n f = (u : ℕ) → u < n → f u < n

-- f gives no number below n twice
abbrev pub Parts : ℕ → (ℕ → ℕ) → Type 0
Parts n f = (u v : ℕ) → u < n → v < n → f u ≡ f v → u ≡ v

-- f with the image w in the place of m
abbrev swapped : (ℕ → ℕ) → ℕ → ℕ → ℕ → ℕ
swapped f m w u = cond (eqb (f u) m) w (f u)

swapped_is : (f : ℕ → ℕ) (m w u : ℕ) → ((f u ≡ m) × (swapped f m w u ≡ w)) ⊎ ((f u ≡ m → ⊥) × (swapped f m w u ≡ f u))
swapped_is f m w u = grind (arith, nat_tests)

swapped_keeps : (m : ℕ) (f : ℕ → ℕ) → Keeps (suc m) f → Parts (suc m) f → Keeps m (swapped f m (f m))
swapped_keeps m f k p u h =
    elim (swapped_is f m (f m) u) [
      | inl (e, s) ↦ let d : f m ≡ m → ⊥ = λ q. absurd (omega (arith, p u m (omega arith) (omega arith) (e ∙ sym q))) in omega (arith, k m (omega arith), s, d)
      | inr (d, s) ↦ omega (arith, k u (omega arith), s, d)
    ]

swapped_parts : (m : ℕ) (f : ℕ → ℕ) → Parts (suc m) f → Parts m (swapped f m (f m))
swapped_parts m f p u v h l e =
    elim (swapped_is f m (f m) u) [
      | inl (a, s) ↦ elim (swapped_is f m (f m) v) [
        | inl (b, t) ↦ p u v (omega arith) (omega arith) (a ∙ sym b)
        | inr (b, t) ↦ absurd (omega (arith, p m v (omega arith) (omega arith) (sym s ∙ e ∙ t)))
      ]
      | inr (a, s) ↦ elim (swapped_is f m (f m) v) [
        | inl (b, t) ↦ absurd (omega (arith, p u m (omega arith) (omega arith) (sym s ∙ e ∙ t)))
        | inr (b, t) ↦ p u v (omega arith) (omega arith) (sym s ∙ e ∙ t)
      ]
    ]

equal_or_not : (a b : ℕ) → (a ≡ b) ⊎ (a ≡ b → ⊥)
equal_or_not a b = grind (arith, nat_tests)

-- some number below n has the image v
abbrev pub Reached : ℕ → (ℕ → ℕ) → ℕ → Type 0
Reached n f v = (u : ℕ) × (u < n) × (f u ≡ v)

module _ (m : ℕ) (f : ℕ → ℕ) (k : Keeps (suc m) f) (p : Parts (suc m) f) where
  reached_last : (f m ≡ m → ⊥) → Reached m (swapped f m (f m)) (f m) → Reached (suc m) f m
  reached_last d (u, l, s) =
      elim (swapped_is f m (f m) u) [
        | inl (a, b) ↦ (u, omega arith, a)
        | inr (a, b) ↦ absurd (omega (arith, p u m (omega arith) (omega arith) (sym b ∙ s)))
      ]

  reached_before : (v : ℕ) → (f m ≡ v → ⊥) → Reached m (swapped f m (f m)) v → Reached (suc m) f v
  reached_before v d (u, l, s) =
      elim (swapped_is f m (f m) u) [ inl (a, b) ↦ absurd (d (sym b ∙ s)) | inr (a, b) ↦ (u, omega arith, sym b ∙ s) ]

  reached : ((v : ℕ) → v < m → Reached m (swapped f m (f m)) v) → (v : ℕ) → v < suc m → Reached (suc m) f v
  reached rest v h =
      elim (equal_or_not (f m) v) [
        | inl e ↦ (m, omega arith, e)
        | inr d ↦ elim (equal_or_not v m) [
          | inl e ↦ let o : f m ≡ m → ⊥ = λ q. d (q ∙ sym e) in
              subst (Reached (suc m) f) (sym e) (reached_last o (rest (f m) (omega (arith, k m (omega arith), o))))
          | inr a ↦ reached_before v d (rest v (omega arith))
        ]
      ]

pub onto_below : (n : ℕ) (f : ℕ → ℕ) → Keeps n f → Parts n f → (v : ℕ) → v < n → Reached n f v
onto_below zero f k p = λ v h. absurd (omega arith)
onto_below (suc m) f k p = reached m f k p (onto_below m (swapped f m (f m)) (swapped_keeps m f k p) (swapped_parts m f p))
