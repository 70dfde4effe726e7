use Rattle.std.proofs.Common.{ap, ◌∙◌}
use Rattle.std.proofs.lemmas.Bool.Decides.{same_from_decides}
use Rattle.atlas.specs.Legends.{has_sense}
use Rattle.atlas.specs.Senses.{same_sense}
use Rattle.atlas.proofs.Numbers.{sense_decides}
use Rattle.atlas.proofs.draft.Draft.leads.Goals as goal

pub returns-in-Some : goal.returns-in-Some
returns-in-Some g c =
    let sense = g.N.Label.Label.sense in
    let x = c.args.label.now in
    let y = c.in-Some.held in
    same_from_decides c.same.result (same_sense (sense x) (sense y)) c.same.ensures (sense_decides (sense x) (sense y))
    ∙ ap (has_sense sense x) c.in-Some.ensures
