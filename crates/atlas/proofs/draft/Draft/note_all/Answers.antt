use Rattle.std.proofs.Common.{is_ok, ap, ◌∙◌}
use Rattle.std.specs.List.{range_with_len}
use Rattle.std.proofs.lemmas.Result.{err_from_is_err_and}
use Rattle.atlas.proofs.Stepwise.{rows, noting_on, noting_over, noting_ends}
use Rattle.atlas.proofs.draft.Draft.note_all.Goals as goal

pub loop-u-preserved : goal.loop-u-preserved
loop-u-preserved g c =
    noting_on (λ k. rows g.N.Label.Label.sense k.leg (range_with_len 0 k.count)) _ _ _ _ c.loop-u.invariant _ c.loop-u-test.true c.in_ok-note_row.ensures.labels c.in_ok-note_row.ensures.net c.in_ok-note_row.ensures.most

pub returns-in_err-note_row-clause-fits : goal.returns-in_err-note_row-clause-fits
returns-in_err-note_row-clause-fits g c =
    ap is_ok (err_from_is_err_and c.from_residual.result c.from_residual.ensures.1).1
    ∙ noting_over (λ k. rows g.N.Label.Label.sense k.leg (range_with_len 0 k.count)) c.args.self.now c.args.legend.now c.loop-u.self _ c.loop-u.invariant c.loop-u-test.true c.in_err-note_row.ensures.fits

pub returns : goal.returns
returns g c = noting_ends (λ k. rows g.N.Label.Label.sense k.leg (range_with_len 0 k.count)) _ _ _ _ c.loop-u.invariant c.loop-u-test.false
