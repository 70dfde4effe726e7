-- The legs to the stations so far are those to their images.
use Rattle.std.proofs.Common.{◌≡◌, ℕ, ◌<◌}
use Rattle.std.specs.Option.{option_map}
use Rattle.survey.specs.Pairings.{image_of}
use Rattle.survey.proofs.pairing.Pairing.keeps_legs_from.Given as goal

abbrev pub invariant-loop-v : goal.invariant-loop-v
invariant-loop-v g l =
    (k : ℕ) → k < l.v → option_map g.G.Label.Label.sense ((g.H.Network.means l.h).leg l.to (image_of l.self k)) ≡ option_map g.G.Label.Label.sense ((g.G.Network.means l.g).leg l.u k)
