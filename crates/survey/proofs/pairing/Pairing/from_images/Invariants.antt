use Rattle.std.proofs.Common.{◌≡◌, ℕ, ◌<◌, ◌⊎◌, length, get_or}
use Rattle.survey.proofs.pairing.Pairing.from_images.Given as goal

abbrev pub invariant-loop-u : goal.invariant-loop-u
invariant-loop-u l =
    (length l.paired ≡ 64) × (length l.sources ≡ 64) × ((k : ℕ) → k < l.u → get_or l.paired k 0 ≡ get_or l.images k 0) × ((k : ℕ) → k < l.u → (get_or l.images k 0 < l.count) × (get_or l.sources (get_or l.images k 0) 0 ≡ k)) × ((v : ℕ) → v < l.count → (get_or l.sources v 0 ≡ 255) ⊎ ((get_or l.sources v 0 < l.u) × (get_or l.images (get_or l.sources v 0) 0 ≡ v)))
