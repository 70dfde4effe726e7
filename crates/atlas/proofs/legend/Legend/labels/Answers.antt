use Rattle.std.proofs.Common.{refl}
use Rattle.atlas.specs.Lent.{labels_of}
use Rattle.atlas.proofs.legend.Legend.labels.Goals as goal

pub returns : goal.returns
unfolding labels_of
returns g c = refl
