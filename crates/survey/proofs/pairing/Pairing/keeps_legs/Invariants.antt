-- The legs from the stations so far are those from their images.
use Rattle.std.proofs.Common.{◌≡◌, ℕ, ◌<◌}
use Rattle.std.specs.Option.{option_map}
use Rattle.survey.specs.Pairings.{size_of, image_of}
use Rattle.survey.proofs.pairing.Pairing.keeps_legs.Given as goal

abbrev pub invariant-loop-u : goal.invariant-loop-u
invariant-loop-u g l =
    (k : ℕ) → k < l.u → (v : ℕ) → v < size_of l.self → option_map g.G.Label.Label.sense ((g.H.Network.means l.h).leg (image_of l.self k) (image_of l.self v)) ≡ option_map g.G.Label.Label.sense ((g.G.Network.means l.g).leg k v)
