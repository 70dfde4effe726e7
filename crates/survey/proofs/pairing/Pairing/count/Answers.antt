use Rattle.std.proofs.Common.{rules}
use Rattle.survey.specs.Pairings.{size_of}
use Rattle.survey.proofs.pairing.Pairing.count.Goals as goal

pub returns : goal.returns
unfolding size_of
returns c = search rules
