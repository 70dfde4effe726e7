use Rattle.std.proofs.Common.{◌≡◌, arith}
use Rattle.std.proofs.lemmas.Bool.Decides.{Decides-like}
use Rattle.survey.specs.Pairings.{size_of}
use Rattle.survey.proofs.Carried.{carries_by, goes_back, maps_back, maps_compose}
use Rattle.survey.proofs.pairing.Pairing.carries.Goals as goal

pub returns-then-stations-count-clause-back : goal.returns-then-stations-count-clause-back
returns-then-stations-count-clause-back g c = maps_back _ _ _

pub returns-then-stations-count-clause-compose : goal.returns-then-stations-count-clause-compose
returns-then-stations-count-clause-compose g c = maps_compose _ _ _

pub returns-then-not-keeps_kinds-clause-back : goal.returns-then-not-keeps_kinds-clause-back
returns-then-not-keeps_kinds-clause-back g c = maps_back _ _ _

pub returns-then-not-keeps_kinds-clause-compose : goal.returns-then-not-keeps_kinds-clause-compose
returns-then-not-keeps_kinds-clause-compose g c = maps_compose _ _ _

pub returns-clause-back : goal.returns-clause-back
returns-clause-back g c = maps_back _ _ _

pub returns-clause-compose : goal.returns-clause-compose
returns-clause-compose g c = maps_compose _ _ _

pub returns-clause-reversed : goal.returns-clause-reversed
returns-clause-reversed g c = goes_back _ _ _ _

pub returns-clause-decides : goal.returns-clause-decides
returns-clause-decides g c =
    let p = c.args.self.now in
    let G = g.G.Network.means c.args.g.now in
    let H = g.H.Network.means c.args.h.now in
    let a : size_of p ≡ G.count = omega arith in
    let b : size_of p ≡ H.count = omega arith in
    Decides-like
    c.keeps_legs.result
    (carries_by g.G.Label.Label.sense p G H a b (c.keeps_kinds.ensures.0 c.if-not-keeps_kinds.false))
    (λ m u l v k. m.1.legs u v (omega (arith, m.0)) (omega (arith, m.0)))
    c.keeps_legs.ensures
