-- What `write!` puts down is the text of the reading: a gradient passes through its bits and back.
use Rattle.std.proofs.Common.{w16, SFits, rules}
use Rattle.std.proofs.lemmas.Int.{to_z-of_z}
use Rattle.survey.proofs.reading.ReadingDisplay.fmt.Goals as goal

pub returns-clause-writes : goal.returns-clause-writes
returns-clause-writes g c plain ok =
    let fits : SFits w16 c.args.self.now.gradient = search rules in
    let shown = c.write.ensures.writes plain ok in
    simp to_z-of_z at shown
