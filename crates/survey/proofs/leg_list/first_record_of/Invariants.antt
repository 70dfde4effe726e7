-- What is left of the records has the same first one.
use Rattle.std.proofs.Common.{◌≡◌, drop}
use Rattle.survey.specs.Sources.{first_record}
use Rattle.survey.proofs.leg_list.first_record_of.Given as goal

abbrev pub invariant-loop-record : goal.invariant-loop-record
invariant-loop-record g l = first_record (drop l.record-index l.legs) l.from l.to ≡ first_record l.legs l.from l.to
