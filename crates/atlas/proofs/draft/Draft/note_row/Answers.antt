use Rattle.std.proofs.Common.{is_ok, ap, ◌∙◌}
use Rattle.std.proofs.lemmas.Result.{err_from_is_err_and}
use Rattle.atlas.proofs.Stepwise.{row, noting_on, noting_over, noting_ends}
use Rattle.atlas.proofs.draft.Draft.note_row.Goals as goal

pub loop-v-preserved : goal.loop-v-preserved
loop-v-preserved g c =
    noting_on (λ k. row g.N.Label.Label.sense (k.leg c.args.u)) _ _ _ _ c.loop-v.invariant _ c.loop-v-test.true c.in_ok-note.ensures.labels c.in_ok-note.ensures.net c.in_ok-note.ensures.most

pub returns-in_err-note-clause-fits : goal.returns-in_err-note-clause-fits
returns-in_err-note-clause-fits g c =
    ap is_ok (err_from_is_err_and c.from_residual.result c.from_residual.ensures.1).1
    ∙ noting_over (λ k. row g.N.Label.Label.sense (k.leg c.args.u)) c.args.self.now c.args.legend.now c.loop-v.self _ c.loop-v.invariant c.loop-v-test.true c.in_err-note.ensures.fits

pub returns : goal.returns
returns g c = noting_ends (λ k. row g.N.Label.Label.sense (k.leg c.args.u)) _ _ _ _ c.loop-v.invariant c.loop-v-test.false
