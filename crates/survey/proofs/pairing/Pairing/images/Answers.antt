use Rattle.std.proofs.Common.{rules}
use Rattle.survey.specs.Pairings.{images_of}
use Rattle.survey.proofs.Paired.{pairing_stands}
use Rattle.survey.proofs.pairing.Pairing.images.Goals as goal

pub returns : goal.returns
unfolding images_of
returns c = record { list = search rules; law = pairing_stands c.args.self.now }
