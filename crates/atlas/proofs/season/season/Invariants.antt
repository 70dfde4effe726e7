-- The requests so far are fulfilled, those that are left are as they were, and the atlas holds what those so far left.
use Rattle.std.proofs.Common.{◌≡◌, map, take, drop}
use Rattle.atlas.specs.Calls.{left_by}
use Rattle.atlas.specs.Holding.{held_of, bytes_of, places_of}
use Rattle.atlas.specs.Seasons.{call_of}
use Rattle.atlas.proofs.Requests.{KeptSo, Leaves}
use Rattle.atlas.proofs.season.season.Given as goal

abbrev pub invariant-loop-request : goal.invariant-loop-request
invariant-loop-request g l =
    let sense = g.L.Label.sense in
    let means = g.N.Network.means in
    let k = l.request-index in
    let before = l.initial.requests in
    let s₀ = held_of l.initial.atlas in
    let s = held_of l.atlas in
    (drop k l.requests ≡ drop k before)
    × Leaves sense means s₀ before s (drop k before) (take k l.requests)
    × (left_by sense s (map (call_of means) (drop k before)) ≡ left_by sense s₀ (map (call_of means) before))
    × KeptSo s (bytes_of l.initial.atlas) (bytes_of l.atlas) (places_of l.initial.atlas) (places_of l.atlas)
