use Rattle.atlas.proofs.AnyCalls.{season_law}
use Rattle.atlas.proofs.law.season_law.Goals as goal

pub returns : goal.returns
returns g c = season_law g.L.Label.sense
