use Rattle.std.proofs.Common.{◌≡◌, ℕ, sym, ◌∙◌}
use Rattle.survey.proofs.Carried.{one_fails, one_holds, all_hold}
use Rattle.survey.proofs.pairing.Pairing.keeps_kinds.Goals as goal
use Rattle.survey.proofs.pairing.Pairing.keeps_kinds.Goals.{Start}

-- the kind of station k is that of w
abbrev Alike : (g : _) → Start g → ℕ → ℕ → Type 0
Alike g c k w = (g.H.Network.means c.args.h.now).kind w ≡ (g.G.Network.means c.args.g.now).kind k

pub returns-then-kind : goal.returns-then-kind
returns-then-kind g c =
    one_fails _ c.images-image-items.ensures.list (Alike g (goal.at.returns-then-kind g c).Start) c.loop-u-test.true
    (λ e. c.if-kind.true (c.kind.ensures ∙ e ∙ sym c.kind-in-loop-u.ensures))

pub loop-u-preserved : goal.loop-u-preserved
loop-u-preserved g c =
    one_holds _ c.images-image-items.ensures.list (Alike g (goal.at.loop-u-preserved g c).Start) c.loop-u-test.true c.loop-u.invariant
    (sym c.kind.ensures ∙ c.if-kind.false ∙ c.kind-in-loop-u.ensures)

pub returns : goal.returns
returns g c = all_hold _ c.images-image-items.ensures.list (Alike g (goal.at.returns g c).Start) c.loop-u-test.false c.loop-u.invariant
