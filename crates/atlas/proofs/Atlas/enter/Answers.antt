use Rattle.std.proofs.Common.{◌≤◌, length, refl, ap, subst, arith}
use Rattle.search.specs.Meanings.{coded}
use Rattle.survey.specs.Networks.{Net}
use Rattle.atlas.specs.Answering.{Carried, entering, unmet}
use Rattle.atlas.specs.Calls.{sought_in, nothing_sought}
use Rattle.atlas.specs.Drafts.{net_of}
use Rattle.atlas.specs.Holding.{held_of}
use Rattle.atlas.specs.Legends.{full_legend}
use Rattle.atlas.specs.Lent.{labels_of}
use Rattle.survey.specs.declared.pairing.Pairing.{Pairing}
use Rattle.atlas.proofs.Answered.{Settles, refused_read, sought_lacking, sought_known, settled_unsought, settled_found, settled_nowhere, settled_spent, enter_settles, enter_full}
use Rattle.atlas.proofs.Drafting.{reads_some, reads_none, labels_fit, labels_over, drafted_read, missing_lacks, none_lacks}
use Rattle.atlas.proofs.LawfulCalls.{done_lawfully, quiet}
use Rattle.atlas.proofs.Lending.{room_is}
use Rattle.atlas.proofs.Atlas.enter.Goals as goal
use Rattle.atlas.proofs.Atlas.enter.Goals.{In-Some, After-coded-network}

pub read-requires : goal.read-requires
read-requires g c = omega (arith, c.free-free.ensures, room_is c.args.self.now.legend)

pub returns-in_err-draft : goal.returns-in_err-draft
returns-in_err-draft g c =
    let q = refused_read g.L.Label.sense (held_of c.args.self.now) (entering (g.N.Network.means c.args.net.now) c.args.allowance) c.in_err-draft.field-0.0 c.from_residual.result c.in_err-draft.ensures c.from_residual.ensures.1 in
    done_lawfully q.1 (quiet (q.2.says c.args.place.now) q.2.same_memory)

pub returns-in_default : goal.returns-in_default
unfolding held_of
returns-in_default g c =
    let sense = g.L.Label.sense in
    let n = g.N.Network.means c.args.net.now in
    let a = c.args.self.now in
    let s = held_of a in
    let r = reads_none n a.legend _ _ c.in_default.is c.in_ok-draft.ensures in
    let full = labels_over a.legend _ c.free-free.result c.free-free.ensures r.1 in
    done_lawfully (enter_full sense s n c.args.allowance n.count r.0 full) (quiet (record { answer = refl; place = refl }) (λ bytes places. (refl, refl)))

-- the missing labels find places, as those of the draft's own network
fit :
    (g : _) (c : In-Some g) →
    length (full_legend g.L.Label.sense (net_of c.in-Some.draft) (labels_of c.args.self.now.legend)) ≤ (held_of c.args.self.now).places
unfolding held_of
fit g c =
    let l = c.args.self.now.legend in
    let r = reads_some _ l _ _ c.in-Some.draft c.in-Some.is c.in_ok-draft.ensures in
    omega (arith, labels_fit l _ c.free-free.result c.free-free.ensures r.2, ap (λ (k : Net g.row.L.Denot). length (full_legend g.L.Label.sense k (labels_of l))) r.0)

pub number-requires : goal.number-requires
number-requires g c =
    let r = reads_some _ c.args.self.now.legend _ _ c.in-Some.draft c.in-Some.is c.in_ok-draft.ensures in
    record { complete = r.1; places = fit g (goal.at.number-requires g c).In-Some }

pub number-requires-in-Nowhere : goal.number-requires-in-Nowhere
number-requires-in-Nowhere g c =
    let r = reads_some _ c.args.self.now.legend _ _ c.in-Some.draft c.in-Some.is c.in_ok-draft.ensures in
    record { complete = r.1; places = fit g (goal.at.number-requires-in-Nowhere g c).In-Some }

pub returns-then-has_missing : goal.returns-then-has_missing
unfolding held_of unmet
returns-then-has_missing g c =
    let sense = g.L.Label.sense in
    let n = g.N.Network.means c.args.net.now in
    let a = c.args.self.now in
    let s = held_of a in
    let d = c.in-Some.draft in
    let r = reads_some n a.legend _ _ d c.in-Some.is c.in_ok-draft.ensures in
    let placed = labels_fit a.legend _ c.free-free.result c.free-free.ensures r.2 in
    let lacks = missing_lacks d a.legend n r.0 r.1 c.has_missing.result c.has_missing.ensures c.if-has_missing.true in
    let settled = enter_settles sense s n c.args.allowance d.stations nothing_sought (drafted_read d a.legend n r.0) placed (sought_lacking sense s n lacks) in
    done_lawfully (settled_unsought settled)
    (subst (λ (k : Net g.row.L.Denot). Carried sense (unmet sense s k 0) c.number.result c.args.place.now c.args.place.now a c.number.new.self) r.0 (c.number.ensures c.args.place.now))

-- the forms are searched for the network as it is coded, and that settles the answer
settles :
    (g : _) (c : After-coded-network g) →
    Settles g.L.Label.sense (held_of c.args.self.now) (entering (g.N.Network.means c.args.net.now) c.args.allowance) (sought_in (coded c.coded-network.result) 1 (held_of c.args.self.now).forms)
unfolding held_of
settles g c =
    let sense = g.L.Label.sense in
    let n = g.N.Network.means c.args.net.now in
    let a = c.args.self.now in
    let s = held_of a in
    let d = c.in-Some.draft in
    let r = reads_some n a.legend _ _ d c.in-Some.is c.in_ok-draft.ensures in
    let placed = labels_fit a.legend _ c.free-free.result c.free-free.ensures r.2 in
    let few = none_lacks d a.legend n r.0 r.1 c.has_missing.result c.has_missing.ensures c.if-has_missing.false in
    enter_settles sense s n c.args.allowance d.stations _ (drafted_read d a.legend n r.0) placed (sought_known sense s n _ _ c.coded-network.ensures r.0 few)

pub returns-in-Found : goal.returns-in-Found
returns-in-Found g c =
    done_lawfully (settled_found (settles g (goal.at.returns-in-Found g c).After-coded-network) c.in-Found.ensures.answer)
    (quiet (record { answer = refl; place = c.in-Found.ensures.placed }) (λ bytes places. (refl, refl)))

pub returns-in-Nowhere : goal.returns-in-Nowhere
unfolding held_of unmet
returns-in-Nowhere g c =
    let sense = g.L.Label.sense in
    let n = g.N.Network.means c.args.net.now in
    let a = c.args.self.now in
    let s = held_of a in
    let r = reads_some n a.legend _ _ c.in-Some.draft c.in-Some.is c.in_ok-draft.ensures in
    let made = subst (λ (k : Net g.row.L.Denot). Carried sense (unmet sense s k c.in-Nowhere.trials) c.number-in-Nowhere.result c.seek.new.place c.seek.new.place a c.number-in-Nowhere.new.self) r.0 (c.number-in-Nowhere.ensures c.seek.new.place) in
    done_lawfully (settled_nowhere (settles g (goal.at.returns-in-Nowhere g c).After-coded-network) c.in-Nowhere.ensures.answer)
    (subst (λ (q : Pairing). Carried sense (unmet sense s n c.in-Nowhere.trials) c.number-in-Nowhere.result q c.seek.new.place a c.number-in-Nowhere.new.self) c.in-Nowhere.ensures.placed made)

pub returns-in-Spent : goal.returns-in-Spent
returns-in-Spent g c =
    done_lawfully (settled_spent (settles g (goal.at.returns-in-Spent g c).After-coded-network) c.in-Spent.ensures.answer)
    (quiet (record { answer = refl; place = c.in-Spent.ensures.placed }) (λ bytes places. (refl, refl)))
