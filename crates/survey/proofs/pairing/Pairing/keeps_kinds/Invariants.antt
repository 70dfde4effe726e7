-- The kinds of the stations so far are those of their images.
use Rattle.std.proofs.Common.{◌≡◌, ℕ, ◌<◌}
use Rattle.survey.specs.Pairings.{image_of}
use Rattle.survey.proofs.pairing.Pairing.keeps_kinds.Given as goal

abbrev pub invariant-loop-u : goal.invariant-loop-u
invariant-loop-u g l =
    (k : ℕ) → k < l.u → (g.H.Network.means l.h).kind (image_of l.self k) ≡ (g.G.Network.means l.g).kind k
