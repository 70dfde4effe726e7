-- The labels of legs, and what does not change behind them.
use Rattle.std.specs.Prelude.{◌≡◌, ℕ, List, [], ◌∷◌, length, drop, Some, None, Option}

-- the labels of some legs, in order
abbrev pub labels_on : {L : Type 0} → (ℕ → ℕ → Option L) → List (ℕ × ℕ) → List L
labels_on leg [] = []
labels_on leg (p ∷ ps) = let r = labels_on leg ps in elim (leg p.0 p.1) [ None ↦ r | Some x ↦ x ∷ r ]

-- from place n on, nothing changed
abbrev pub Behind : {A : Type 0} → ℕ → List A → List A → Type 0
Behind n before after = (length after ≡ length before) × (drop n after ≡ drop n before)
