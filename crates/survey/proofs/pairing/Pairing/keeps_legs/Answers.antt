use Rattle.std.proofs.Common.{ℕ}
use Rattle.std.proofs.lemmas.Bool.Decides.{not_from_Decides}
use Rattle.survey.specs.Carrying.{KeepsLegsFrom}
use Rattle.survey.proofs.Carried.{one_fails, one_holds, all_hold}
use Rattle.survey.proofs.pairing.Pairing.keeps_legs.Goals as goal
use Rattle.survey.proofs.pairing.Pairing.keeps_legs.Goals.{Start}

-- the legs from station k are those from w
abbrev Alike : (g : _) → Start g → ℕ → ℕ → Type 0
Alike g c = KeepsLegsFrom g.G.Label.Label.sense c.args.self.now (g.G.Network.means c.args.g.now) (g.H.Network.means c.args.h.now)

pub returns-then-not-keeps_legs_from : goal.returns-then-not-keeps_legs_from
returns-then-not-keeps_legs_from g c =
    one_fails _ c.images-image-items.ensures.list (Alike g (goal.at.returns-then-not-keeps_legs_from g c).Start) c.loop-u-test.true
    (not_from_Decides c.keeps_legs_from.result c.keeps_legs_from.ensures c.if-not-keeps_legs_from.true)

pub loop-u-preserved : goal.loop-u-preserved
loop-u-preserved g c =
    one_holds _ c.images-image-items.ensures.list (Alike g (goal.at.loop-u-preserved g c).Start) c.loop-u-test.true c.loop-u.invariant
    (c.keeps_legs_from.ensures.0 c.if-not-keeps_legs_from.false)

pub returns : goal.returns
returns g c = all_hold _ c.images-image-items.ensures.list (Alike g (goal.at.returns g c).Start) c.loop-u-test.false c.loop-u.invariant
