use Rattle.atlas.specs.Holding.{held_of}
use Rattle.atlas.proofs.Atlas.blocks.Goals as goal

pub returns : goal.returns
unfolding held_of
returns g c = c.min.ensures
