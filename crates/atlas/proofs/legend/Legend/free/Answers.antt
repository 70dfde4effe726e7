use Rattle.std.proofs.Common.{arith}
use Rattle.atlas.proofs.Lending.{labels_length, room_is}
use Rattle.atlas.proofs.legend.Legend.free.Goals as goal

pub returns : goal.returns
returns g c = omega (arith, labels_length c.args.self.now, room_is c.args.self.now)
