-- Reading a network: which networks an atlas takes, and what is refused.
use Rattle.std.specs.Prelude.{ℕ, true, false, List, ℤ, Some, None, Ok, Err, Result, ◌==◌, nat_lt}
use Rattle.std.specs.List.{range_with_len}
use Rattle.atlas.specs.Calls.{first_loop}
use Rattle.survey.specs.Networks.{Net}
use Rattle.survey.specs.declared.refusal.Refusal.{Refusal}
use Rattle.survey.specs.declared.refusal.Refusal.TheVariants.{NoStations, TooManyStations, LegToItself}

-- how many stations a network has, where it can be read: some, at most 64, and none with a leg to itself
unfoldable pub stations_read : {L : Type 0} → (L → List ℤ) → Net L → Result ℕ Refusal
stations_read sense n =
    elim (n.count == 0) [
      | true ↦ Err NoStations
      | false ↦ elim (nat_lt 64 n.count) [
        | true ↦ Err TooManyStations
        | false ↦ elim (first_loop sense n (range_with_len 0 n.count)) [
          | Some u ↦ Err (LegToItself u)
          | None ↦ Ok n.count
        ]
      ]
    ]
