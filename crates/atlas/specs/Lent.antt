-- What the lent memory of an atlas stands for.
use Rattle.std.specs.Prelude.{ℕ, min, List, length, take}
use Rattle.atlas.specs.declared.legend.Legend.{Legend}

-- the labels of a legend, in order
unfoldable pub labels_of : {L : Type 0} → Legend L → List L
labels_of l = take l.len l.places.now

-- how many labels a legend can have
unfoldable pub room_of : {L : Type 0} → Legend L → ℕ
room_of l = min (length l.places.now) 250
