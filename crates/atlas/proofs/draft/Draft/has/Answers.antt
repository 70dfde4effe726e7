use Rattle.std.proofs.Common.{not, rules, tests, ap, ◌∙◌}
use Rattle.std.proofs.lemmas.Iterator.{YieldsList-from_slice}
use Rattle.std.proofs.lemmas.Iterator.Search.{any_from_yields_List}
use Rattle.atlas.specs.Drafts.{net_of}
use Rattle.atlas.specs.Legends.{has_sense}
use Rattle.atlas.proofs.NotingLegs.{lacking_legs}
use Rattle.atlas.proofs.draft.Draft.has.Goals as goal

pub returns : goal.returns
returns g c =
    let sense = g.N.Label.Label.sense in
    let leg = (net_of c.args.self.now).leg in
    let legs = c.args.self.now.legs.items in
    let x = c.args.label.now in
    let found = any_from_yields_List (λ p. has_sense sense x (leg p.0 p.1)) _ _ c.any.result c.any.ensures.ran (YieldsList-from_slice legs cc) (λ p b q k. search (rules, tests)) in
    ap not found ∙ lacking_legs sense leg x legs
