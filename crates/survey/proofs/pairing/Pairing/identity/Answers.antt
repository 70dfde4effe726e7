use Rattle.std.proofs.Common.{rules}
use Rattle.survey.specs.Pairings.{size_of, image_of}
use Rattle.survey.proofs.pairing.Pairing.identity.Goals as goal

pub returns : goal.returns
unfolding size_of image_of
returns c = search rules
