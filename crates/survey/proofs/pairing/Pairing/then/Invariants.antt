use Rattle.std.proofs.Common.{◌≡◌, ℕ, ◌<◌, length, get_or}
use Rattle.survey.proofs.pairing.Pairing.then.Given as goal

abbrev pub invariant-loop-u : goal.invariant-loop-u
invariant-loop-u l =
    (length l.images ≡ 64) × (length l.sources ≡ 64) × ((k : ℕ) → k < l.u → get_or l.images k 0 ≡ get_or l.other.images (get_or l.self.images k 0) 0) × ((k : ℕ) → k < l.u → get_or l.sources k 0 ≡ get_or l.self.sources (get_or l.other.sources k 0) 0)
