use Rattle.std.proofs.Common.{◌≡◌, ℕ, Bool, true, false, not, eqb, List, ◌++◌, length, sym, refl, ap, ◌∙◌, arith, le-ltb, lt-ltb}
use Rattle.std.proofs.lemmas.Bool.Decides.{nat_tests}
use Rattle.atlas.specs.Drafts.{net_of, labels_with}
use Rattle.atlas.specs.FirstLegs.{labels_on}
use Rattle.atlas.specs.Legends.{noted}
use Rattle.atlas.specs.Lent.{labels_of}
use Rattle.atlas.proofs.NotingLegs.{all, stays_fits, present_stays, push_there, push_labels, push_fits}
use Rattle.atlas.proofs.draft.Draft.note.Goals as goal
use Rattle.atlas.proofs.draft.Draft.note.Goals.{then-number-ne0-via-then-number-ne0, then-number-ne0-via-else-number-ne0+then-has}

pub returns-in_default : goal.returns-in_default
unfolding labels_with
returns-in_default g c =
    let sense = g.N.Label.Label.sense in
    let d = c.args.self.now in
    let n = net_of d in
    let ls = labels_of c.args.legend.now in
    let same = ap (noted sense (all sense ls n.leg d.legs.items d.most d.there d.within)) c.in_default.ensures in
    record {
      fits = stays_fits sense ls n.leg d.legs.items d.most d.there d.within (n.leg c.args.u c.args.v) same;
      labels = same;
      net = refl;
      most = refl;
    }

-- a sense that is among the noted legs' has a number
found : (r : Bool) (k : ℕ) → r ≡ true → not r ≡ eqb k 0 → k ≡ 0 → ⊥
found r k t e z = let f : ◌≡◌ {A = ℕ} 0 1 = grind (arith, nat_tests) in omega arith

-- one that is not has none
unfound : (r : Bool) (k : ℕ) → r ≡ false → not r ≡ eqb k 0 → k ≡ 0
unfound r k t e = grind (arith, nat_tests)

pub returns-then-number-ne0 : goal.returns-then-number-ne0
unfolding labels_with
returns-then-number-ne0 g c =
    let sense = g.N.Label.Label.sense in
    let d = c.args.self.now in
    let n = net_of d in
    let ls = labels_of c.args.legend.now in
    let leg = n.leg c.args.u c.args.v in
    let same =
    present_stays sense ls n.leg d.legs.items d.most d.there d.within leg c.in-Some.label (sym c.in-Some.ensures)
    (λ a b.
    elim c.then-number-ne0.branch [
      | then-number-ne0-via-then-number-ne0 w ↦ w.if-number-ne0.true (c.number.ensures ∙ a)
      | then-number-ne0-via-else-number-ne0+then-has w ↦ found _ _ w.if-has.true w.has.ensures b
    ]) in
    record { fits = stays_fits sense ls n.leg d.legs.items d.most d.there d.within leg same; labels = same; net = refl; most = refl }

pub returns-then-len-self-clause-fits : goal.returns-then-len-self-clause-fits
unfolding labels_with
returns-then-len-self-clause-fits g c =
    let d = c.args.self.now in
    let full = le-ltb (length d.legs.items) d.most (omega (arith, c.len.ensures.value, c.if-len-self.true)) in
    sym full
    ∙ push_fits g.N.Label.Label.sense (labels_of c.args.legend.now) (net_of d).leg d.legs.items d.most d.there d.within c.args.u c.args.v c.in-Some.label (sym c.in-Some.ensures) (sym c.number.ensures ∙ c.if-number-ne0.false) (unfound _ _ c.if-has.false c.has.ensures)

pub invariant_of-self : goal.invariant_of-self
invariant_of-self g c =
    let d = c.args.self.now in
    let there = push_there g.N.Label.Label.sense (labels_of c.args.legend.now) (net_of d).leg d.legs.items d.most d.there d.within c.args.u c.args.v c.in-Some.label (sym c.in-Some.ensures) in
    record {
      read = d.read;
      there = ap (λ (ps : List (ℕ × ℕ)). length (labels_on (net_of d).leg ps)) c.push.ensures.items ∙ there ∙ sym (ap length c.push.ensures.items);
      within = omega (arith, c.push.ensures.len, c.len.ensures.value, c.if-len-self.false, d.within);
      few = d.few;
    }

pub returns-clause-fits : goal.returns-clause-fits
unfolding labels_with
returns-clause-fits g c =
    let d = c.args.self.now in
    let place = lt-ltb (length d.legs.items) d.most (omega (arith, c.len.ensures.value, c.if-len-self.false, d.within)) in
    sym place
    ∙ push_fits g.N.Label.Label.sense (labels_of c.args.legend.now) (net_of d).leg d.legs.items d.most d.there d.within c.args.u c.args.v c.in-Some.label (sym c.in-Some.ensures) (sym c.number.ensures ∙ c.if-number-ne0.false) (unfound _ _ c.if-has.false c.has.ensures)

pub returns-clause-labels : goal.returns-clause-labels
unfolding labels_with
returns-clause-labels g c =
    let d = c.args.self.now in
    let ls = labels_of c.args.legend.now in
    ap (λ (ps : List (ℕ × ℕ)). ls ++ labels_on (net_of d).leg ps) c.push.ensures.items
    ∙ push_labels g.N.Label.Label.sense ls (net_of d).leg d.legs.items d.most d.there d.within c.args.u c.args.v c.in-Some.label (sym c.in-Some.ensures) (sym c.number.ensures ∙ c.if-number-ne0.false) (unfound _ _ c.if-has.false c.has.ensures)
