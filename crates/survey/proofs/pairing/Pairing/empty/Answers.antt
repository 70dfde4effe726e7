use Rattle.std.proofs.Common.{rules}
use Rattle.survey.specs.Pairings.{images_of}
use Rattle.survey.proofs.pairing.Pairing.empty.Goals as goal

pub returns : goal.returns
unfolding images_of
returns c = search rules
