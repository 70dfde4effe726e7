use Rattle.std.proofs.Common.{◌≡◌, ℕ, ◌+◌, ◌<◌, List, ◌∷◌, ◌++◌, length, get_or, drop, is_ok, sym, refl, ap, ◌∙◌, arith}
use Rattle.std.proofs.lemmas.List.{get_or_default}
use Rattle.atlas.specs.Drafts.{net_of, labels_with}
use Rattle.atlas.specs.FirstLegs.{labels_on}
use Rattle.atlas.specs.Lent.{labels_of, room_of}
use Rattle.atlas.proofs.Joining.{left_some, placed}
use Rattle.atlas.proofs.draft.Draft.join.Goals as goal
use Rattle.atlas.proofs.draft.Draft.join.Goals.{After-add}

pub loop-i-init : goal.loop-i-init
unfolding labels_with
loop-i-init g c = record { labels = refl; room = refl; others = (refl, refl) }

-- the label that is added, and those of the legs that are left, give all labels
whole :
    (g : _) (c : After-add g) →
    labels_of c.loop-i.legend ++ (c.in-Some.label ∷ labels_on (net_of c.args.self.now).leg (drop (c.loop-i.i + 1) c.args.self.now.legs.items)) ≡ labels_with c.args.self.now c.args.legend.now
whole g c =
    let legs = c.args.self.now.legs.items in
    let i = c.loop-i.i in
    let here = get_or c.deref.result.now i (0, 0) in
    let low : i < length legs = omega (arith, c.loop-i-test.true, c.len-i-end.ensures.value) in
    let at = ap (λ (ps : List (ℕ × ℕ)). get_or ps i (0, 0)) c.deref.ensures.0 ∙ get_or_default legs i (0, 0) here low in
    let some = left_some (net_of c.args.self.now).leg legs i here c.in-Some.label low at (sym c.in-Some.ensures) in
    ap (λ (ys : List g.row.N-Label.Denot). labels_of c.loop-i.legend ++ ys) (sym some) ∙ c.loop-i.invariant.labels

pub unwrap-requires : goal.unwrap-requires
unwrap-requires g c =
    placed (labels_of c.loop-i.legend) _ (labels_with c.args.self.now c.args.legend.now) c.in-Some.label (room_of c.loop-i.legend) (is_ok c.add.result) (whole g c) (omega (arith, c.requires, c.loop-i.invariant.room)) c.add.ensures.place
