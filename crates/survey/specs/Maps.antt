-- Station maps: when two networks have one form.
use Rattle.std.specs.Prelude.{◌≡◌, ℕ, ◌<◌, List, ℤ}
use Rattle.std.specs.Option.{option_map}
use Rattle.survey.specs.Networks.{Net}

-- a map from g to h pairs each station of g with one of h, one-to-one and onto; it keeps every kind,
-- and for every ordered pair a leg stands in both or in neither, with labels of equal sense
pub record Map {L : Type 0} (sense : L → List ℤ) (g h : Net L) (to : ℕ → ℕ) : Type 0 where
  pub same_count : g.count ≡ h.count
  pub within : (u : ℕ) → u < g.count → to u < h.count
  pub one_to_one : (u v : ℕ) → u < g.count → v < g.count → to u ≡ to v → u ≡ v
  pub onto : (w : ℕ) → w < h.count → (u : ℕ) × (u < g.count) × (to u ≡ w)
  pub kinds : (u : ℕ) → u < g.count → h.kind (to u) ≡ g.kind u
  pub legs : (u v : ℕ) → u < g.count → v < g.count → option_map sense (h.leg (to u) (to v)) ≡ option_map sense (g.leg u v)

-- some map joins g to h
abbrev pub Mapped : {L : Type 0} → (L → List ℤ) → Net L → Net L → Type 0
Mapped sense g h = (to : ℕ → ℕ) × Map sense g h to

-- g and h tell the same of every station and pair, up to the sense of labels
pub record SameSenses {L : Type 0} (sense : L → List ℤ) (g h : Net L) : Type 0 where
  pub same_count : g.count ≡ h.count
  pub same_kind : (u : ℕ) → g.kind u ≡ h.kind u
  pub same_leg : (u v : ℕ) → option_map sense (g.leg u v) ≡ option_map sense (h.leg u v)
