-- Noting the legs from the stations that are left gives what noting all gives.
use Rattle.std.specs.List.{range_with_len}
use Rattle.atlas.specs.Legends.{noted_rows}
use Rattle.atlas.proofs.Stepwise.{Noting}
use Rattle.atlas.proofs.draft.Draft.note_all.Given as goal

abbrev pub invariant-loop-u : goal.invariant-loop-u
invariant-loop-u g l = Noting (λ k us ls. noted_rows g.N.Label.Label.sense k.leg us (range_with_len 0 k.count) ls) l.initial.self l.legend l.self l.u
