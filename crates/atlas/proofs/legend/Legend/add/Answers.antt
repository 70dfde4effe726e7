use Rattle.std.proofs.Common.{ℕ, ◌<◌, min, length, set, sym, ap, arith, length-set, lt-ltb}
use Rattle.std.proofs.lemmas.List.{take_more_set}
use Rattle.atlas.specs.Lent.{labels_of, room_of}
use Rattle.atlas.proofs.Lending.{labels_length, room_is}
use Rattle.atlas.proofs.legend.Legend.add.Goals as goal

pub bounds-self-self : goal.bounds-self-self
bounds-self-self g c =
    let l = c.args.self.now in
    omega (arith, labels_length l, room_is l)

pub invariant_of-self : goal.invariant_of-self
invariant_of-self g c =
    let l = c.args.self.now in
    let size = length-set l.places.now l.len c.args.label in
    record { within = omega (arith, labels_length l, room_is l) }

pub returns : goal.returns
unfolding labels_of room_of
returns g c =
    let l = c.args.self.now in
    let low : length (labels_of l) < room_of l = omega (arith, labels_length l, room_is l) in
    let in-places : l.len < length l.places.now = omega (arith, labels_length l, room_is l) in
    record {
      place = sym (lt-ltb (length (labels_of l)) (room_of l) low);
      labels = take_more_set l.places.now l.len c.args.label in-places;
      room = ap (λ (n : ℕ). min n 250) (length-set l.places.now l.len c.args.label);
      others = ap (λ (n : ℕ). set l.places.now n c.args.label) (sym (labels_length l));
    }
