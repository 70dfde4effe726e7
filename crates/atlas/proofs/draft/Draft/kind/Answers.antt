use Rattle.std.proofs.Common.{sym, arith}
use Rattle.atlas.specs.Drafts.{net_of}
use Rattle.atlas.proofs.Reading.{read_ok}
use Rattle.atlas.proofs.draft.Draft.kind.Goals as goal

pub returns-else-u-self : goal.returns-else-u-self
returns-else-u-self g c =
    let d = c.args.self.now in
    let count = (read_ok g.N.Label.Label.sense (net_of d) d.stations (sym d.read)).0 in
    sym ((g.N.Network.bounded d.net.now).no_kind c.args.u (omega (arith, c.if-u-self.false, count)))
