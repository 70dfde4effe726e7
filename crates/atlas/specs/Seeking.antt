-- What a search through the forms of an atlas ends with, where so many trials are allowed.
use Rattle.std.specs.Prelude.{◌≡◌, ℕ, cond, List, [], Some, None, Option, nat_le}
use Rattle.atlas.specs.Calls.{Sought}
use Rattle.atlas.specs.declared.seeking.Sought.{Sought as CodeSought}
use Rattle.atlas.specs.declared.seeking.Sought.TheVariants.{Found, Nowhere, Spent}
use Rattle.survey.specs.Pairings.{images_of}
use Rattle.survey.specs.declared.pairing.Pairing.{Pairing}

-- a form found or none, and the trials taken
abbrev pub found_in : Option (ℕ × List ℕ) → ℕ → CodeSought
found_in None trials = Nowhere trials
found_in (Some m) trials = Found m.0 trials

-- what it ends with where n trials are allowed: spent where its trials outnumber them
unfoldable pub told_sought : ℕ → Sought → CodeSought
told_sought n o = cond (nat_le o.trials n) (found_in o.found o.trials) Spent

-- the images of the map that was found
abbrev pub images_in : Option (ℕ × List ℕ) → List ℕ
images_in None = []
images_in (Some m) = m.1

-- the place afterwards: it holds the map that was found, else it is as before
abbrev pub SoughtPlaced : Sought → CodeSought → Pairing → Pairing → Type 0
SoughtPlaced o (Found form trials) before after = images_of after ≡ images_in o.found
SoughtPlaced o (Nowhere trials) before after = after ≡ before
SoughtPlaced o Spent before after = after ≡ before
