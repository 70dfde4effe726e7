-- The trials so far and the search through the forms that are left give what the whole search gives, and the place is
-- as it was.
use Rattle.std.proofs.Common.{◌≡◌, ◌+◌, ◌-◌, ◌≤◌, map, length}
use Rattle.std.specs.List.{range_with_len}
use Rattle.search.specs.Meanings.{coded}
use Rattle.atlas.specs.Blocks.{form_in}
use Rattle.atlas.specs.Calls.{sought_in}
use Rattle.atlas.specs.Holding.{held_of, bytes_of}
use Rattle.atlas.proofs.FormByForm.{tried}
use Rattle.atlas.proofs.Atlas.seek.Given as goal

abbrev pub invariant-loop-k : goal.invariant-loop-k
invariant-loop-k g l =
    (l.trials ≤ l.allowance)
    × (l.place ≡ l.initial.place)
    × (tried l.trials (sought_in (coded l.network) (l.k + 1) (map (form_in (bytes_of l.self)) (range_with_len l.k (length (held_of l.self).forms - l.k)))) ≡ sought_in (coded l.network) 1 (held_of l.self).forms)
