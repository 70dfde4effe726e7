use Rattle.std.proofs.Common.{refl}
use Rattle.atlas.specs.Holding.{bytes_of, places_of}
use Rattle.atlas.proofs.Holding.{held_parts, none_yet}
use Rattle.atlas.proofs.Atlas.open.Goals as goal

pub returns : goal.returns
unfolding bytes_of places_of
returns g c = record {
  held = held_parts _ refl c.new.ensures.room (none_yet c.args.bytes.now) c.new.ensures.none;
  bytes = refl;
  places = c.new.ensures.lent;
}
