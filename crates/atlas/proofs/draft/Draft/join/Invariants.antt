-- The labels so far and those of the legs that are left are all labels, and nothing changed behind them.
use Rattle.std.proofs.Common.{◌≡◌, ◌++◌, length, drop}
use Rattle.atlas.specs.Drafts.{net_of, labels_with}
use Rattle.atlas.specs.FirstLegs.{labels_on, Behind}
use Rattle.atlas.specs.Lent.{labels_of, room_of}
use Rattle.atlas.proofs.draft.Draft.join.Given as goal

abbrev pub invariant-loop-i : goal.invariant-loop-i
invariant-loop-i g l =
    record {
      labels : labels_of l.legend ++ labels_on (net_of l.self).leg (drop l.i l.self.legs.items) ≡ labels_with l.self l.initial.legend;
      room : room_of l.legend ≡ room_of l.initial.legend;
      others : Behind (length (labels_of l.legend)) l.initial.legend.places.now l.legend.places.now;
    }
