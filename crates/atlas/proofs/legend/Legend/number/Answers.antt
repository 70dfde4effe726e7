use Rattle.std.proofs.Common.{◌≡◌, ℕ, ◌<◌, Bool, true, false, cond, ltb, Some, None, refl, List, ℤ, length, Decides, rules, tests, sym, ◌∙◌, arith}
use Rattle.std.specs.List.{position, position_or_len}
use Rattle.std.proofs.lemmas.Iterator.{YieldsList-from_slice}
use Rattle.std.proofs.lemmas.Iterator.Search.{position_from_yields_List}
use Rattle.std.proofs.lemmas.Bool.{ltb-true}
use Rattle.std.proofs.lemmas.Bool.Decides.{same_from_decides}
use Rattle.atlas.specs.Lent.{labels_of}
use Rattle.atlas.proofs.Lending.{labels_length}
use Rattle.atlas.proofs.Numbers.{alike, sense_decides, number_found, number_lacking}
use Rattle.atlas.proofs.legend.Legend.number.Goals as goal
use Rattle.atlas.proofs.legend.Legend.number.Goals.{After-position}

-- a test that tells whether the senses are one is the test of senses
told : {L : Type 0} (sense : L → List ℤ) (x y : L) (b : Bool) → Decides b (sense x ≡ sense y) → b ≡ alike sense x y
told sense x y b d = same_from_decides b (alike sense x y) d (sense_decides (sense x) (sense y))

-- the place of the first label that has the sense
found : (g : _) (c : After-position g) → c.position.result ≡ position (alike g.L.Label.sense c.args.label.now) (labels_of c.args.self.now)
found g c =
    position_from_yields_List (alike g.L.Label.sense c.args.label.now) _ _ c.position.result c.position.ensures.ran (YieldsList-from_slice (labels_of c.args.self.now) cc) (λ y b q k. (search (rules, tests), told g.L.Label.sense c.args.label.now y.now b (search (rules, tests))))

-- a place is within the list
low : {L : Type 0} (p : L → Bool) (ls : List L) (i : ℕ) → Some i ≡ position p ls → i < length ls
low p ls i e = go (ltb (position_or_len p ls) (length ls)) refl e
  where
    go : (b : Bool) → ltb (position_or_len p ls) (length ls) ≡ b → Some i ≡ cond b (Some (position_or_len p ls)) None → i < length ls
    go true t e = let s : i ≡ position_or_len p ls = cc in omega (arith, ltb-true _ _ t)
    go false t e = let z : ◌≡◌ {A = ℕ} 0 1 = cc in absurd (omega arith)

pub returns-in-Some : goal.returns-in-Some
returns-in-Some g c =
    number_found g.L.Label.sense c.args.label.now (labels_of c.args.self.now) c.in-Some.i (sym c.in-Some.is ∙ found g (goal.at.returns-in-Some g c).After-position)

pub returns-in-None : goal.returns-in-None
returns-in-None g c =
    number_lacking g.L.Label.sense c.args.label.now (labels_of c.args.self.now) (sym c.in-None.is ∙ found g (goal.at.returns-in-None g c).After-position)

-- there are at most 250 labels
pub overflow_cast-result : goal.overflow_cast-result
overflow_cast-result g c =
    let few = low (alike g.L.Label.sense c.args.label.now) (labels_of c.args.self.now) c.in-Some.i (sym c.in-Some.is ∙ found g (goal.at.overflow_cast-result g c).After-position) in
    record { fits = omega (arith, few, labels_length c.args.self.now, c.args.self.now.within) }

pub overflow_add-result : goal.overflow_add-result
overflow_add-result g c =
    let few = low (alike g.L.Label.sense c.args.label.now) (labels_of c.args.self.now) c.in-Some.i (sym c.in-Some.is ∙ found g (goal.at.overflow_add-result g c).After-position) in
    omega (arith, few, labels_length c.args.self.now, c.args.self.now.within)
