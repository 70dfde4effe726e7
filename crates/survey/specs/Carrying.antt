-- Pairings as maps: what it is for a pairing to carry one network onto another, and what follows.
use Rattle.std.specs.Prelude.{◌≡◌, ℕ, ◌<◌, List, ℤ}
use Rattle.std.specs.Option.{option_map}
use Rattle.survey.specs.Maps.{Map, Mapped}
use Rattle.survey.specs.Networks.{Net}
use Rattle.survey.specs.Pairings.{size_of, image_of, Reverses}
use Rattle.survey.specs.declared.pairing.Pairing.{Pairing}

-- the kinds of g's stations are those of their images in h
abbrev pub KeepsKinds : {L : Type 0} → Pairing → Net L → Net L → Type 0
KeepsKinds p g h = (u : ℕ) → u < size_of p → h.kind (image_of p u) ≡ g.kind u

module _ {L : Type 0} (sense : L → List ℤ) where
  -- the legs of g from u are, by their senses, those of h from w to the images
  abbrev pub KeepsLegsFrom : Pairing → Net L → Net L → ℕ → ℕ → Type 0
  KeepsLegsFrom p g h u w =
      (v : ℕ) → v < size_of p → option_map sense (h.leg w (image_of p v)) ≡ option_map sense (g.leg u v)

  -- the legs of g are, by their senses, those of h between the images
  abbrev pub KeepsLegs : Pairing → Net L → Net L → Type 0
  KeepsLegs p g h = (u : ℕ) → u < size_of p → KeepsLegsFrom p g h u (image_of p u)

  -- the pairing has the stations of g and carries them by a map onto h
  abbrev pub Carries : Pairing → Net L → Net L → Type 0
  Carries p g h = (size_of p ≡ g.count) × Map sense g h (image_of p)

  -- a pairing that leads back where p leads carries h onto g where p carries g onto h
  abbrev pub GoesBack : Pairing → Net L → Net L → Type 0
  GoesBack p g h = (q : Pairing) → Reverses p q → Carries p g h → Carries q h g

  -- maps go back
  abbrev pub MapsBack : Net L → Net L → Type 0
  MapsBack g h = Mapped sense g h → Mapped sense h g

  -- maps compose: a map from g to h and one from h to k make one from g to k
  abbrev pub MapsCompose : Net L → Net L → Type 0
  MapsCompose g h =
      (k : Net L) (to on : ℕ → ℕ) → Map sense g h to → Map sense h k on → Map sense g k (λ u. on (to u))
