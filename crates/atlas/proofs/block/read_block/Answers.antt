use Rattle.std.proofs.Common.{◌+◌, ◌*◌, get_or, cond, Some, None, Option, rules, tests, refl, ap, ◌∙◌, arith}
use Rattle.search.specs.Arrays.{searchable}
use Rattle.search.specs.Coded.{Coded}
use Rattle.atlas.proofs.InBlocks.{block_read}
use Rattle.search.proofs.Made.{made_at}
use Rattle.atlas.proofs.block.read_block.Goals as goal

pub returns : goal.returns
returns c =
    let bytes = c.args.bytes.now in
    let k = c.args.k in
    let same =
    block_read bytes c.from_fn-kinds.result c.copy_from_slice.new.self k _ c.requires c.from_fn-kinds.ensures.items.long
    (λ u l. made_at _ _ (λ j. get_or bytes (4161 * k + 1 + j) 0) (λ j y q w. search (rules, tests)) c.from_fn-kinds.result 64 u 0 c.from_fn-kinds.ensures.items l)
    (omega arith) c.copy_from_slice.ensures.after _ refl in
    c.new.ensures ∙ ap {B = Option Coded} (λ (g : Coded). cond (searchable g) (Some g) None) same
