use Rattle.std.proofs.Common.{is_some, rules, tests, sym, ◌∙◌, arith}
use Rattle.std.specs.List.{range_with_len}
use Rattle.std.proofs.lemmas.Iterator.{YieldsList-from_range}
use Rattle.std.proofs.lemmas.Iterator.Search.{find_from_yields_List}
use Rattle.atlas.proofs.Loops.{unmapped, loop_found}
use Rattle.atlas.proofs.reader.lowest_loop.Goals as goal

pub returns : goal.returns
returns g c =
    let n = g.N.Network.means c.args.net.now in
    sym (unmapped c.find.result)
    ∙ find_from_yields_List (λ u. is_some (n.leg u u)) _ _ c.find.result c.find.ensures.ran (YieldsList-from_range 0 c.args.count c.args.count (cc) (omega arith)) (λ u b q k. search (rules, tests))
    ∙ loop_found g.N.Label.Label.sense n (range_with_len 0 c.args.count)
