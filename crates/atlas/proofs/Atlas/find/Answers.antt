use Rattle.std.proofs.Common.{◌<◌, ◌≤◌, length, refl, arith}
use Rattle.search.specs.Meanings.{coded}
use Rattle.atlas.specs.Answering.{finding}
use Rattle.atlas.specs.Calls.{sought_in, nothing_sought}
use Rattle.atlas.specs.Holding.{held_of}
use Rattle.atlas.specs.Legends.{full_legend}
use Rattle.atlas.proofs.Answered.{Settles, refused_read, sought_lacking, sought_known, settled_unsought, settled_found, settled_nowhere, settled_spent, find_settles}
use Rattle.atlas.proofs.Drafting.{reads_some, reads_none, drafted_read}
use Rattle.atlas.proofs.LawfulCalls.{said_lawfully}
use Rattle.atlas.proofs.Atlas.find.Goals as goal
use Rattle.atlas.proofs.Atlas.find.Goals.{After-coded-network}

pub returns-in_err-draft : goal.returns-in_err-draft
returns-in_err-draft g c =
    let q = refused_read g.L.Label.sense (held_of c.args.self.now) (finding (g.N.Network.means c.args.net.now) c.args.allowance) c.in_err-draft.field-0.0 c.from_residual.result c.in_err-draft.ensures c.from_residual.ensures.1 in
    said_lawfully q.1 (q.2.says c.args.place.now)

pub returns-in_default : goal.returns-in_default
unfolding held_of
returns-in_default g c =
    let sense = g.L.Label.sense in
    let n = g.N.Network.means c.args.net.now in
    let a = c.args.self.now in
    let s = held_of a in
    let r = reads_none n a.legend 0 _ c.in_default.is c.in_ok-draft.ensures in
    let lacks : length s.legend < length (full_legend sense n s.legend) = omega (arith, r.1) in
    said_lawfully (settled_unsought (find_settles sense s n c.args.allowance n.count nothing_sought r.0 (sought_lacking sense s n lacks))) (record { answer = refl; place = refl })

-- the forms are searched for the network as it is coded, and that settles the answer
settles :
    (g : _) (c : After-coded-network g) →
    Settles g.L.Label.sense (held_of c.args.self.now) (finding (g.N.Network.means c.args.net.now) c.args.allowance) (sought_in (coded c.coded-network.result) 1 (held_of c.args.self.now).forms)
unfolding held_of
settles g c =
    let sense = g.L.Label.sense in
    let n = g.N.Network.means c.args.net.now in
    let a = c.args.self.now in
    let s = held_of a in
    let d = c.in-Some.draft in
    let r = reads_some n a.legend 0 _ d c.in-Some.is c.in_ok-draft.ensures in
    let few : length (full_legend sense n s.legend) ≤ length s.legend = omega (arith, r.2) in
    find_settles sense s n c.args.allowance d.stations _ (drafted_read d a.legend n r.0) (sought_known sense s n _ _ c.coded-network.ensures r.0 few)

pub returns-in-Found : goal.returns-in-Found
returns-in-Found g c =
    said_lawfully (settled_found (settles g (goal.at.returns-in-Found g c).After-coded-network) c.in-Found.ensures.answer) (record { answer = refl; place = c.in-Found.ensures.placed })

pub returns-in-Nowhere : goal.returns-in-Nowhere
returns-in-Nowhere g c =
    said_lawfully (settled_nowhere (settles g (goal.at.returns-in-Nowhere g c).After-coded-network) c.in-Nowhere.ensures.answer) (record { answer = refl; place = c.in-Nowhere.ensures.placed })

pub returns-in-Spent : goal.returns-in-Spent
returns-in-Spent g c =
    said_lawfully (settled_spent (settles g (goal.at.returns-in-Spent g c).After-coded-network) c.in-Spent.ensures.answer) (record { answer = refl; place = c.in-Spent.ensures.placed })
