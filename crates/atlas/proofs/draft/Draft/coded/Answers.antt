use Rattle.std.proofs.Common.{◌≡◌, ◌*◌, ◌≤◌, ◌++◌, drop, replicate, true, rules, tests, sym, arith}
use Rattle.search.specs.Arrays.{in_arrays, searchable}
use Rattle.search.specs.Meanings.{coded}
use Rattle.atlas.specs.Drafts.{net_of}
use Rattle.atlas.specs.declared.draft.Draft.{Draft}
use Rattle.atlas.specs.Legends.{coded_by}
use Rattle.atlas.specs.Lent.{labels_of}
use Rattle.atlas.proofs.InArrays.{rows_wide, rows_length, rows_hold, arrays_coded, coded_searchable, there_is, there_some}
use Rattle.search.proofs.Made.{made_at}
use Rattle.atlas.proofs.Reading.{read_ok}
use Rattle.atlas.proofs.draft.Draft.coded.Goals as goal
use Rattle.atlas.proofs.draft.Draft.coded.Goals.{After-new}

-- the arrays hold the coded network
arrays : (g : _) (c : After-new g) → in_arrays c.args.self.now.stations c.from_fn-kinds.result (c.fill.new.bytes ++ drop (64 * c.args.self.now.stations) (replicate 4096 0)) ≡ coded_by g.N.Label.Label.sense (labels_of c.args.legend.now) (net_of c.args.self.now)
arrays g c =
    let sense = g.N.Label.Label.sense in
    let d = c.args.self.now in
    let n = net_of d in
    let ls = labels_of c.args.legend.now in
    let read = read_ok sense n d.stations (sym d.read) in
    let bounds = g.N.Network.bounded d.net.now in
    let few : 64 * d.stations ≤ 4096 = omega (arith, read.0, read.1.few) in
    arrays_coded sense ls n read.1.few bounds d.stations read.0 c.from_fn-kinds.result (c.fill.new.bytes ++ drop (64 * d.stations) (replicate 4096 0)) c.from_fn-kinds.ensures.items.long
    (rows_length sense ls n bounds d.stations read.0 few c.fill.new.bytes c.fill.ensures.length)
    (λ u l. made_at _ _ n.kind (λ i y q k. search (rules, tests)) c.from_fn-kinds.result 64 u 0 c.from_fn-kinds.ensures.items l)
    (rows_hold sense ls n bounds d.stations read.0 few c.fill.new.bytes c.fill.ensures.length (λ i l. let v = c.fill.ensures.values i l in search (rules, tests)))

-- and it can be searched
can : (g : _) (c : After-new g) → searchable (coded_by g.N.Label.Label.sense (labels_of c.args.legend.now) (net_of c.args.self.now)) ≡ true
can g c =
    let sense = g.N.Label.Label.sense in
    let d = c.args.self.now in
    let read = read_ok sense (net_of d) d.stations (sym d.read) in
    coded_searchable sense (labels_of c.args.legend.now) (net_of d) read.1.few read.1.loopless

pub unwrap-requires : goal.unwrap-requires
unwrap-requires g c = there_some coded _ _ (arrays g c) (can g c) c.new.result c.new.ensures

-- its rows have places
room : {N L : Type 0} {w : _} {b : _} (d : Draft N L w b) → 64 * d.stations ≤ 4096
room {N} {L} {w} {b} d = let read = read_ok b.sense (net_of d) d.stations (sym d.read) in omega (arith, read.0, read.1.few)

pub slice_bounds-codes-end : goal.slice_bounds-codes-end
slice_bounds-codes-end g c = room c.args.self.now

pub slice_bounds-rows-end : goal.slice_bounds-rows-end
slice_bounds-rows-end g c = rows_wide c.args.self.now.stations (room c.args.self.now)

pub returns : goal.returns
returns g c =
    let at = (goal.at.returns g c).After-new in
    there_is coded _ _ (arrays g at) (can g at) c.new.result c.unwrap.result c.new.ensures c.unwrap.ensures
