-- As many stations as the loop has passed and that stay have numbers below the one that is looked for.
use Rattle.std.proofs.Common.{◌-◌, ◌≤◌}
use Rattle.survey.specs.Without.{taken_below}
use Rattle.survey.proofs.without.old_number.Given as goal

abbrev pub invariant-loop-old : goal.invariant-loop-old
invariant-loop-old l = l.old - taken_below l.mask l.old ≤ l.station
