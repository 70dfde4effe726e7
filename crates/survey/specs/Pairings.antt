-- What a pairing of stations stands for.
use Rattle.std.specs.Prelude.{◌≡◌, ℕ, ◌<◌, List, length, take, slice_index}
use Rattle.survey.specs.declared.pairing.Pairing.{Pairing}

-- how many stations it pairs
unfoldable pub size_of : Pairing → ℕ
size_of p = p.count

-- the station that station u is paired with
unfoldable pub image_of : Pairing → ℕ → ℕ
image_of p u = slice_index p.images u

-- the images of the stations 0, 1 and on, in order
unfoldable pub images_of : Pairing → List ℕ
images_of p = take p.count p.images

-- each number of the list is below its length
abbrev pub Within : List ℕ → Type 0
Within images = (u : ℕ) → u < length images → slice_index images u < length images

-- no number stands at two places
abbrev pub OneToOne : List ℕ → Type 0
OneToOne images = (u v : ℕ) → u < length images → v < length images → slice_index images u ≡ slice_index images v → u ≡ v

-- each number below the length stands at some place
abbrev pub Onto : List ℕ → Type 0
Onto images = (v : ℕ) → v < length images → (u : ℕ) × (u < length images) × (slice_index images u ≡ v)

-- the images of a pairing: of the stations below a count, one-to-one and onto
pub record OneToOneOnto (images : List ℕ) : Type 0 where
  pub within : Within images
  pub one_to_one : OneToOne images
  pub onto : Onto images

-- p pairs each station below n with itself
abbrev pub Identity : ℕ → Pairing → Type 0
Identity n p = (size_of p ≡ n) × ((u : ℕ) → u < n → image_of p u ≡ u)

-- r leads back where p leads, and p where r leads
abbrev pub Reverses : Pairing → Pairing → Type 0
Reverses p r =
    (size_of r ≡ size_of p)
    × ((u : ℕ) → u < size_of p → image_of r (image_of p u) ≡ u)
    × ((v : ℕ) → v < size_of p → image_of p (image_of r v) ≡ v)

-- r takes each station where q takes its image under p
abbrev pub Follows : Pairing → Pairing → Pairing → Type 0
Follows p q r =
    (size_of r ≡ size_of p) × ((u : ℕ) → u < size_of p → image_of r u ≡ image_of q (image_of p u))
