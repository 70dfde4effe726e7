use Rattle.std.proofs.Common.{ℕ, Ok, Result, sym, ap, ◌∙◌, arith}
use Rattle.std.specs.List.{range_with_len}
use Rattle.survey.specs.declared.refusal.Refusal.{Refusal}
use Rattle.atlas.specs.Calls.{first_loop}
use Rattle.atlas.proofs.Loops.{loop_below}
use Rattle.atlas.proofs.Reading.{read_none, read_many, read_loop, read_whole}
use Rattle.atlas.proofs.reader.read_stations.Goals as goal

pub returns-then-count-eq0 : goal.returns-then-count-eq0
returns-then-count-eq0 g c =
    sym (read_none g.N.Label.Label.sense (g.N.Network.means c.args.net.now) (sym c.stations-count.ensures ∙ c.if-count-eq0.true))

pub returns-then-count-gt-MOST_STATIONS : goal.returns-then-count-gt-MOST_STATIONS
returns-then-count-gt-MOST_STATIONS g c =
    sym (read_many g.N.Label.Label.sense (g.N.Network.means c.args.net.now) (omega (arith, c.stations-count.ensures)))

pub overflow_cast-result : goal.overflow_cast-result
overflow_cast-result g c =
    let low = loop_below g.N.Label.Label.sense (g.N.Network.means c.args.net.now) 0 c.stations-count.result c.in-Some.u (sym c.in-Some.ensures) in
    record { fits = omega arith }

pub returns-in-Some : goal.returns-in-Some
returns-in-Some g c =
    let n = g.N.Network.means c.args.net.now in
    sym
    (read_loop
    g.N.Label.Label.sense
    n
    c.in-Some.u
    (omega (arith, c.stations-count.ensures))
    (omega (arith, c.stations-count.ensures))
    (ap (λ (k : ℕ). first_loop g.N.Label.Label.sense n (range_with_len 0 k)) (sym c.stations-count.ensures) ∙ sym c.in-Some.ensures))

pub returns-in-None : goal.returns-in-None
returns-in-None g c =
    let n = g.N.Network.means c.args.net.now in
    ap {B = Result ℕ Refusal} Ok c.stations-count.ensures
    ∙ sym
    (read_whole
    g.N.Label.Label.sense
    n
    (omega (arith, c.stations-count.ensures))
    (omega (arith, c.stations-count.ensures))
    (ap (λ (k : ℕ). first_loop g.N.Label.Label.sense n (range_with_len 0 k)) (sym c.stations-count.ensures) ∙ sym c.in-None.ensures))
