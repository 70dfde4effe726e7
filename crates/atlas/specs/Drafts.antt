-- Reading a network against a legend.
use Rattle.std.specs.Prelude.{◌≡◌, ℕ, ◌+◌, ◌<◌, ◌≤◌, List, ◌++◌, length, Some, None, Ok, Err, Option, Result}
use Rattle.atlas.specs.FirstLegs.{labels_on}
use Rattle.atlas.specs.Legends.{full_legend}
use Rattle.atlas.specs.Lent.{labels_of}
use Rattle.atlas.specs.Readings.{stations_read}
use Rattle.atlas.specs.declared.draft.Draft.{Draft}
use Rattle.atlas.specs.declared.legend.Legend.{Legend}
use Rattle.survey.specs.Networks.{Net}
use Rattle.survey.specs.declared.refusal.Refusal.{Refusal}

module _ {N L : Type 0} {w : _} {b : _} where
  -- the network that a draft is of
  abbrev pub net_of : Draft N L w b → Net L
  net_of d = w.means d.net.now

  -- the labels of a legend, and behind them those of the legs that a draft noted
  unfoldable pub labels_with : Draft N L w b → Legend L → List L
  labels_with d l = labels_of l ++ labels_on (net_of d).leg d.legs.items

  -- how many labels there can be: those of the legend, and as many missing ones as find a place
  abbrev pub most_labels : Draft N L w b → Legend L → ℕ
  most_labels d l = length (labels_of l) + d.most

  -- the labels of the legend with those that were noted are its full legend
  abbrev pub Completes : Draft N L w b → Legend L → Type 0
  Completes d l = labels_with d l ≡ full_legend b.sense (net_of d) (labels_of l)

  -- what reading a network gives where so many missing labels find places: why it is refused, a draft, or none where
  -- the missing labels are more
  abbrev pub Reads : Net L → Legend L → ℕ → Result (Option (Draft N L w b)) Refusal → Type 0
  Reads n l most (Err e) = stations_read b.sense n ≡ Err e
  Reads n l most (Ok None) =
      (stations_read b.sense n ≡ Ok n.count) × (length (labels_of l) + most < length (full_legend b.sense n (labels_of l)))
  Reads n l most (Ok (Some d)) =
      (net_of d ≡ n) × Completes d l × (length (full_legend b.sense n (labels_of l)) ≤ length (labels_of l) + most)
