use Rattle.std.proofs.Common.{◌≡◌, ℕ, sym, ap, ◌∙◌}
use Rattle.std.specs.Option.{option_map}
use Rattle.std.proofs.lemmas.Bool.Decides.{not_from_Decides}
use Rattle.survey.proofs.Carried.{one_fails, one_holds, all_hold}
use Rattle.survey.proofs.pairing.Pairing.keeps_legs_from.Goals as goal
use Rattle.survey.proofs.pairing.Pairing.keeps_legs_from.Goals.{Start}

-- the leg to station k is that to w
abbrev Alike : (g : _) → Start g → ℕ → ℕ → Type 0
Alike g c k w =
    option_map g.G.Label.Label.sense ((g.H.Network.means c.args.h.now).leg c.args.to w) ≡ option_map g.G.Label.Label.sense ((g.G.Network.means c.args.g.now).leg c.args.u k)

pub returns-then-not-alike : goal.returns-then-not-alike
returns-then-not-alike g c =
    let sense = g.G.Label.Label.sense in
    one_fails _ c.images-image-items.ensures.list (Alike g (goal.at.returns-then-not-alike g c).Start) c.loop-v-test.true
    (λ e. not_from_Decides c.alike.result c.alike.ensures c.if-not-alike.true (ap (option_map sense) c.leg.ensures ∙ e ∙ ap (option_map sense) (sym c.leg-in-loop-v.ensures)))

pub loop-v-preserved : goal.loop-v-preserved
loop-v-preserved g c =
    let sense = g.G.Label.Label.sense in
    one_holds _ c.images-image-items.ensures.list (Alike g (goal.at.loop-v-preserved g c).Start) c.loop-v-test.true c.loop-v.invariant
    (ap (option_map sense) (sym c.leg.ensures) ∙ c.alike.ensures.0 c.if-not-alike.false ∙ ap (option_map sense) c.leg-in-loop-v.ensures)

pub returns : goal.returns
returns g c = all_hold _ c.images-image-items.ensures.list (Alike g (goal.at.returns g c).Start) c.loop-v-test.false c.loop-v.invariant
