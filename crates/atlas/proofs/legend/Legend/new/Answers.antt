use Rattle.std.proofs.Common.{refl}
use Rattle.atlas.specs.Lent.{labels_of, room_of}
use Rattle.atlas.proofs.legend.Legend.new.Goals as goal

pub returns : goal.returns
unfolding labels_of room_of
returns g c = record { none = refl; room = refl; lent = refl }
