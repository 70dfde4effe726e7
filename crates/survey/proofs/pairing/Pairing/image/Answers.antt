use Rattle.std.proofs.Common.{rules}
use Rattle.survey.specs.Pairings.{size_of, image_of}
use Rattle.survey.proofs.pairing.Pairing.image.Goals as goal

pub returns-then-u-self : goal.returns-then-u-self
unfolding size_of image_of
returns-then-u-self c = search rules

pub returns-else-u-self : goal.returns-else-u-self
unfolding size_of image_of
returns-else-u-self c = search rules
