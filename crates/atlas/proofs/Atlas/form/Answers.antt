use Rattle.std.proofs.Common.{arith}
use Rattle.search.specs.Meanings.{coded}
use Rattle.atlas.specs.Blocks.{block_coded}
use Rattle.atlas.specs.Holding.{bytes_of}
use Rattle.atlas.proofs.Holding.{forms_length, form_chosen}
use Rattle.atlas.proofs.Atlas.form.Goals as goal

pub read_block-requires : goal.read_block-requires
read_block-requires g c = omega (arith, c.requires, forms_length c.args.self.now)

pub returns : goal.returns
unfolding bytes_of
returns g c =
    form_chosen coded (block_coded c.args.self.now.bytes.now c.args.k) c.read_block.result c.unwrap_or_else.result c.read_block.ensures c.unwrap_or_else.ensures
