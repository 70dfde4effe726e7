-- Layers: networks made of the network below.
use Rattle.std.specs.Prelude.{ℕ, List, ℤ, Some, None, Option}
use Rattle.std.proofs.Common.{ap, ◌∙◌}
use Rattle.std.specs.Option.{option_map}
use Rattle.survey.specs.Maps.{Map, SameSenses}
use Rattle.survey.specs.Networks.{Net, Bounded}

-- the first leg where there is one, else the second
abbrev pub or_else : {L : Type 0} → Option L → Option L → Option L
or_else (Some x) other = Some x
or_else None other = other

module _ {L : Type 0} (turned : L → L) where
  -- turned: the leg from u to v is the turned leg from v to u below
  abbrev pub turned_means : Net L → Net L
  turned_means n = record { count = n.count; kind = n.kind; leg = λ u v. option_map turned (n.leg v u) }

  -- both ways: the leg below, or if there is none the turned leg from v to u
  abbrev pub both_ways_means : Net L → Net L
  both_ways_means n =
      record { count = n.count; kind = n.kind; leg = λ u v. or_else (n.leg u v) (option_map turned (n.leg v u)) }

  -- a turned network keeps the bounds
  pub turned_bounded : (n : Net L) → Bounded n → Bounded (turned_means n)
  turned_bounded n b =
      record {
        count_fits = b.count_fits;
        kind_fits = b.kind_fits;
        no_kind = b.no_kind;
        no_leg_from = λ u v h. ap (option_map turned) (b.no_leg_to v u h);
        no_leg_to = λ u v h. ap (option_map turned) (b.no_leg_from v u h);
      }

  -- a network both ways keeps the bounds
  pub both_ways_bounded : (n : Net L) → Bounded n → Bounded (both_ways_means n)
  both_ways_bounded n b =
      record {
        count_fits = b.count_fits;
        kind_fits = b.kind_fits;
        no_kind = b.no_kind;
        no_leg_from =
            λ u v h.
            ap (λ (o : Option L). or_else o (option_map turned (n.leg v u))) (b.no_leg_from u v h)
            ∙ ap (option_map turned) (b.no_leg_to v u h);
        no_leg_to =
            λ u v h.
            ap (λ (o : Option L). or_else o (option_map turned (n.leg v u))) (b.no_leg_to u v h)
            ∙ ap (option_map turned) (b.no_leg_from v u h);
      }

  module _ (sense : L → List ℤ) where
    -- turned twice, a network has the senses of the first
    abbrev pub TurnsBack : Net L → Type 0
    TurnsBack n = SameSenses sense (turned_means (turned_means n)) n

    -- a map to another network is also one between the two turned networks
    abbrev pub MapsTurned : Net L → Type 0
    MapsTurned g = (h : Net L) (to : ℕ → ℕ) → Map sense g h to → Map sense (turned_means g) (turned_means h) to

    -- a map to another network is also one between the two networks both ways
    abbrev pub MapsBothWays : Net L → Type 0
    MapsBothWays g = (h : Net L) (to : ℕ → ℕ) → Map sense g h to → Map sense (both_ways_means g) (both_ways_means h) to
