use Rattle.std.proofs.Common.{arith}
use Rattle.atlas.proofs.Holding.{forms_length, blocks_held}
use Rattle.atlas.proofs.Atlas.count.Goals as goal

pub returns : goal.returns
returns g c = omega (arith, forms_length c.args.self.now, blocks_held c.args.self.now)
