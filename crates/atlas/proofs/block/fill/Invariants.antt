-- The values so far are written.
use Rattle.std.proofs.Common.{ℕ, ◌<◌, slice_index}
use Rattle.atlas.proofs.block.fill.Given as goal

abbrev pub invariant-loop-i : goal.invariant-loop-i
invariant-loop-i g l = (j : ℕ) → j < l.i → goal.F-post g l.value j (slice_index l.bytes j)
