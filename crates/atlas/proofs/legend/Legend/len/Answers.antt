use Rattle.std.proofs.Common.{sym}
use Rattle.atlas.proofs.Lending.{labels_length}
use Rattle.atlas.proofs.legend.Legend.len.Goals as goal

pub returns : goal.returns
returns g c = sym (labels_length c.args.self.now)
