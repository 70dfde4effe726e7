use Rattle.std.proofs.Common.{ℕ, ◌+◌, ◌-◌, ◌*◌, set, rules, tests, ap, ◌∙◌, arith, length-set}
use borrow.Rule.Slice.PartMut.{put_mid, same_len_mid}
use Rattle.search.specs.Meanings.{coded}
use Rattle.atlas.specs.Blocks.{trimmed, code_in_order}
use Rattle.atlas.proofs.InBlocks.{few_stations, part_written, block_put, block_kept}
use Rattle.atlas.proofs.block.write_block.Goals as goal

pub overflow_cast-bytes : goal.overflow_cast-bytes
overflow_cast-bytes c = record { fits = omega (arith, c.count.ensures, few_stations c.args.form.now) }

pub returns : goal.returns
returns c =
    let g = coded c.args.form.now in
    let k = c.args.k in
    let old = c.args.bytes.now in
    let one = set old (4161 * k) c.count.result in
    let first = ap (set old (4161 * k)) c.count.ensures in
    let small = few_stations c.args.form.now in
    let a : ℕ = 4161 * k + 1 + 64 - (4161 * k + 1) in
    let b : ℕ = 4161 * k + 65 + 4096 - (4161 * k + 65) in
    let two = put_mid (4161 * k + 1) a one c.fill.new.bytes in
    let new = put_mid (4161 * k + 65) b two c.fill-2.new.bytes in
    let size = length-set old (4161 * k) c.count.result in
    let two-size = same_len_mid (4161 * k + 1) a one c.fill.new.bytes c.fill.ensures.length in
    let new-size = same_len_mid (4161 * k + 65) b two c.fill-2.new.bytes c.fill-2.ensures.length in
    let ks = part_written (4161 * k + 1) 64 (trimmed g).kind one a c.fill.new.bytes (omega arith) (omega (arith, size, c.requires.block)) c.fill.ensures.length (λ i l. let v = c.fill.ensures.values i l in search (rules, tests)) in
    let cs = part_written (4161 * k + 65) 4096 (code_in_order (trimmed g)) two b c.fill-2.new.bytes (omega arith) (omega (arith, size, two-size, c.requires.block)) c.fill-2.ensures.length (λ i l. let v = c.fill-2.ensures.values i l in search (rules, tests)) in
    record {
      length = new-size ∙ two-size ∙ size;
      form = block_put g small k old one two new c.requires.block first ks cs;
      others = block_kept g small k old one two new c.requires.block first ks cs;
    }
