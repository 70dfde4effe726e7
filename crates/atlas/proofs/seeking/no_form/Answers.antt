use Rattle.std.proofs.Common.{replicate, refl}
use Rattle.search.specs.Arrays.{in_arrays}
use Rattle.search.specs.Meanings.{coded}
use Rattle.atlas.specs.Blocks.{no_form}
use Rattle.atlas.proofs.InArrays.{there_is, no_arrays}
use Rattle.atlas.proofs.seeking.no_form.Goals as goal

pub returns : goal.returns
returns c = there_is coded (in_arrays 0 (replicate 64 0) (replicate 4096 0)) no_form no_arrays refl c.new.result c.unwrap.result c.new.ensures c.unwrap.ensures
