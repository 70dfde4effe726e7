use Rattle.std.proofs.Common.{ℕ, ◌++◌, List, length, Ok, Result, sym, ap, ◌∙◌, arith}
use Rattle.std.proofs.lemmas.Bool.{leb-true, leb-false}
use Rattle.std.proofs.lemmas.List.{append-nil}
use Rattle.survey.specs.Networks.{Net}
use Rattle.survey.specs.declared.refusal.Refusal.{Refusal}
use Rattle.atlas.specs.Drafts.{labels_with}
use Rattle.atlas.specs.FirstLegs.{labels_on}
use Rattle.atlas.specs.Legends.{full_legend}
use Rattle.atlas.specs.Lent.{labels_of}
use Rattle.atlas.proofs.Reading.{read_ok}
use Rattle.atlas.proofs.draft.Draft.read.Goals as goal

-- a draft without legs adds no labels, so that noting all legs gives the full legend
pub returns-in-Ok : goal.returns-in-Ok
unfolding labels_with
returns-in-Ok g c =
    let sense = g.N.Label.Label.sense in
    let n = g.N.Network.means c.args.net.now in
    let ls = labels_of c.args.legend.now in
    let none = ap (λ (ps : List (ℕ × ℕ)). ls ++ labels_on n.leg ps) c.new.ensures ∙ append-nil ls in
    let full = ap (full_legend sense n) none in
    let all = c.in-Ok.ensures.labels ∙ full in
    let fits = leb-true _ _ (sym c.in-Ok.ensures.fits) in
    (c.in-Ok.ensures.net, all ∙ ap (λ (k : Net g.row.N-Label.Denot). full_legend sense k ls) (sym c.in-Ok.ensures.net), omega (arith, fits, ap length full))

pub returns-in-Err : goal.returns-in-Err
unfolding labels_with
returns-in-Err g c =
    let sense = g.N.Label.Label.sense in
    let n = g.N.Network.means c.args.net.now in
    let ls = labels_of c.args.legend.now in
    let none = ap (λ (ps : List (ℕ × ℕ)). ls ++ labels_on n.leg ps) c.new.ensures ∙ append-nil ls in
    let full = ap (full_legend sense n) none in
    let over = leb-false _ _ (sym c.in-Err.ensures.fits) in
    let is = (read_ok sense n c.in_ok-stations.stations c.in_ok-stations.ensures).0 in
    (sym c.in_ok-stations.ensures ∙ ap {B = Result ℕ Refusal} Ok is, omega (arith, over, ap length full))
