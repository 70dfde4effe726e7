use Rattle.std.proofs.Common.{◌/◌, ◌%◌, sym, ap, arith}
use Rattle.atlas.specs.Drafts.{net_of}
use Rattle.atlas.specs.Legends.{code_of}
use Rattle.atlas.specs.Lent.{labels_of}
use Rattle.atlas.proofs.Reading.{read_ok}
use Rattle.atlas.proofs.draft.Draft.code.Goals as goal
use Rattle.atlas.proofs.draft.Draft.code.Goals.{then-u-self-via-then-u-self, then-u-self-via-else-u-self+then-v-self}

-- no leg leads from or to a station that is not there
pub returns-then-u-self : goal.returns-then-u-self
returns-then-u-self g c =
    let sense = g.N.Label.Label.sense in
    let d = c.args.self.now in
    let bounds = g.N.Network.bounded d.net.now in
    let count = (read_ok sense (net_of d) d.stations (sym d.read)).0 in
    sym
    (ap (code_of sense (labels_of c.args.legend.now))
    (elim c.then-u-self.branch [
      | then-u-self-via-then-u-self w ↦ bounds.no_leg_from (c.args.i / 64) (c.args.i % 64) (omega (arith, w.if-u-self.true, count))
      | then-u-self-via-else-u-self+then-v-self w ↦ bounds.no_leg_to (c.args.i / 64) (c.args.i % 64) (omega (arith, w.if-v-self.true, count))
    ]))
