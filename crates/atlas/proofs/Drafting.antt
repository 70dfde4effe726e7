-- A draft that completes a legend: whether the legend lacks a sense.
use Rattle.std.proofs.Common.{◌≡◌, ℕ, ◌+◌, ◌-◌, ◌<◌, ◌≤◌, Bool, true, false, not, eqb, length, Some, None, Ok, Option, ap, sym, ◌∙◌, subst, arith, length-append}
use Rattle.std.proofs.lemmas.Bool.Decides.{nat_tests}
use Rattle.survey.specs.Networks.{Net}
use Rattle.atlas.specs.Drafts.{net_of, labels_with, Completes, Reads}
use Rattle.atlas.specs.FirstLegs.{labels_on}
use Rattle.atlas.specs.Legends.{full_legend}
use Rattle.atlas.specs.Lent.{labels_of, room_of}
use Rattle.atlas.specs.Readings.{stations_read}
use Rattle.atlas.proofs.Lending.{labels_length, room_is}
use Rattle.atlas.specs.declared.draft.Draft.{Draft}
use Rattle.atlas.specs.declared.legend.Legend.{Legend}

-- what reading gives of a draft
pub reads_some :
    {N L : Type 0} {w : _} {b : _} (n : Net L) (l : Legend L) (most : ℕ) (o : Option (Draft N L w b)) (d : Draft N L w b) → o ≡ Some d → Reads n l most (Ok o) →
    (net_of d ≡ n) × Completes d l × (length (full_legend b.sense n (labels_of l)) ≤ length (labels_of l) + most)
reads_some {N} {L} {w} {b} n l most o d e r = subst (λ (x : Option (Draft N L w b)). Reads n l most (Ok x)) e r

-- and of none
pub reads_none :
    {N L : Type 0} {w : _} {b : _} (n : Net L) (l : Legend L) (most : ℕ) (o : Option (Draft N L w b)) → o ≡ None → Reads n l most (Ok o) →
    (stations_read b.sense n ≡ Ok n.count) × (length (labels_of l) + most < length (full_legend b.sense n (labels_of l)))
reads_none {N} {L} {w} {b} n l most o e r = subst (λ (x : Option (Draft N L w b)). Reads n l most (Ok x)) e r

-- as many labels as find places are no more than there is room for
pub labels_fit : {L : Type 0} (l : Legend L) (k free : ℕ) → free ≡ room_of l - length (labels_of l) → k ≤ length (labels_of l) + free → k ≤ room_of l
labels_fit l k free e h = omega (arith, labels_length l, room_is l, l.within)

-- and more than find places are more
pub labels_over : {L : Type 0} (l : Legend L) (k free : ℕ) → free ≡ room_of l - length (labels_of l) → length (labels_of l) + free < k → room_of l < k
labels_over l k free e h = omega (arith, labels_length l, room_is l, l.within)

module _ {N L : Type 0} {w : _} {b : _} (d : Draft N L w b) (l : Legend L) (n : Net L) (is : net_of d ≡ n) where
  -- the network can be read
  pub drafted_read : stations_read b.sense n ≡ Ok d.stations
  drafted_read = ap (stations_read b.sense) (sym is) ∙ d.read

  module _ (whole : Completes d l) where
    full_length : length (full_legend b.sense n (labels_of l)) ≡ length (labels_of l) + length d.legs.items
    unfolding labels_with
    full_length =
        ap length (ap (λ (k : Net L). full_legend b.sense k (labels_of l)) (sym is) ∙ sym whole)
        ∙ omega (arith, length-append (labels_of l) (labels_on (net_of d).leg d.legs.items), d.there)

    -- with noted legs the legend lacks a sense
    pub missing_lacks : (r : Bool) → not r ≡ eqb (length d.legs.items) 0 → r ≡ true → length (labels_of l) < length (full_legend b.sense n (labels_of l))
    missing_lacks r e t = let f = full_length in grind (arith, nat_tests)

    -- with none it lacks none
    pub none_lacks : (r : Bool) → not r ≡ eqb (length d.legs.items) 0 → r ≡ false → length (full_legend b.sense n (labels_of l)) ≤ length (labels_of l)
    none_lacks r e t = let f = full_length in grind (arith, nat_tests)
