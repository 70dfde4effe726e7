-- The labels of a legend, as they lie in its places.
use Rattle.std.proofs.Common.{◌≡◌, ℕ, min, length, take, sym, refl, ap, ◌∙◌, arith, length-take}
use Rattle.atlas.specs.Lent.{labels_of, room_of}
use Rattle.atlas.specs.declared.legend.Legend.{Legend}

-- a legend has as many labels as it counts
pub labels_length : {L : Type 0} (l : Legend L) → length (labels_of l) ≡ l.len
unfolding labels_of
labels_length l = length-take l.len l.places.now ∙ (let w = l.within in omega arith)

-- its room
pub room_is : {L : Type 0} (l : Legend L) → room_of l ≡ min (length l.places.now) 250
unfolding room_of
room_is l = refl

-- the labels of a legend are the first places
pub labels_first : {L : Type 0} (l : Legend L) → labels_of l ≡ take (length (labels_of l)) l.places.now
unfolding labels_of
labels_first l = ap (λ (n : ℕ). take n l.places.now) (sym (length-take l.len l.places.now ∙ (let w = l.within in omega arith)))
