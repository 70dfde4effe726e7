use Rattle.std.proofs.Common.{rules}
use Rattle.survey.specs.Pairings.{size_of, image_of}
use Rattle.survey.proofs.pairing.Pairing.then.Goals as goal

pub returns-then-self-other : goal.returns-then-self-other
unfolding size_of
returns-then-self-other c = search rules

pub returns : goal.returns
unfolding size_of image_of
returns c = search rules
