-- Noting the legs that are left gives what noting all gives.
use Rattle.atlas.specs.Legends.{noted_row}
use Rattle.atlas.proofs.Stepwise.{Noting}
use Rattle.atlas.proofs.draft.Draft.note_row.Given as goal

abbrev pub invariant-loop-v : goal.invariant-loop-v
invariant-loop-v g l = Noting (λ k. noted_row g.N.Label.Label.sense (k.leg l.u)) l.initial.self l.legend l.self l.v
