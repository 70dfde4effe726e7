use Rattle.std.proofs.Common.{◌≡◌, ℕ, ◌+◌, ◌-◌, ◌<◌, List, length, get_or, Some, Option, Err, Result, sym, ap, ◌∙◌, subst, arith}
use Rattle.std.proofs.lemmas.Result.{err_from_is_err_and}
use Rattle.search.specs.Coded.{Coded}
use Rattle.search.specs.Meanings.{coded, reps_of}
use Rattle.survey.specs.declared.refusal.Refusal.{Refusal}
use Rattle.survey.specs.declared.refusal.Refusal.TheVariants.{NoSuchForm}
use Rattle.atlas.specs.Blocks.{form_in, no_form}
use Rattle.atlas.specs.Classing.{form_numbered, class_told, CarriedOnto}
use Rattle.atlas.specs.Holding.{held_of, bytes_of}
use Rattle.atlas.proofs.ClassBits.{forms_at, numbered_none, numbered_some, told_none, nothing_carried, told_class, carries_onto}
use Rattle.atlas.proofs.Holding.{forms_held}
use Rattle.atlas.proofs.Atlas.classes.Goals as goal
use Rattle.atlas.proofs.Atlas.classes.Goals.{After-ok_or, then-form-eq0-via-then-form-eq0, then-form-eq0-via-else-form-eq0+then-form-count}

pub returns-then-form-eq0 : goal.returns-then-form-eq0
returns-then-form-eq0 g c =
    let forms = (held_of c.args.self.now).forms in
    let none = numbered_none forms c.args.form (λ l.
    elim c.then-form-eq0.branch [
      | then-form-eq0-via-then-form-eq0 w ↦ absurd (omega (arith, w.if-form-eq0.true))
      | then-form-eq0-via-else-form-eq0+then-form-count w ↦ omega (arith, w.if-form-count.true, w.count.ensures)
    ]) in
    record {
      class = told_none forms c.args.form c.args.station none;
      symmetric = nothing_carried forms c.args.form c.args.station NoSuchForm;
    }

-- what is told of a station of a form that is held, whether there is such a station or not
told : (g : _) (c : After-ok_or g) → (c.ok_or.result ≡ class_told (held_of c.args.self.now).forms c.args.form c.args.station) × CarriedOnto (held_of c.args.self.now).forms c.args.form c.args.station c.ok_or.result
unfolding bytes_of
told g c =
    let a = c.args.self.now in
    let forms = (held_of a).forms in
    let f = c.args.form in
    let network = coded c.form-network.result in
    let low : f - 1 < length forms = omega (arith, c.if-form-eq0.false, c.if-form-count.false, c.count.ensures) in
    let at : get_or forms (f - 1) no_form ≡ network = ap (λ (gs : List Coded). get_or gs (f - 1) no_form) (forms_held a) ∙ forms_at (form_in (bytes_of a)) 0 (length forms) (f - 1) no_form low ∙ ap (form_in (bytes_of a)) {x = 0 + (f - 1)} {y = f - 1} (omega arith) ∙ sym c.form-network.ensures in
    let is : form_numbered forms f ≡ Some network = numbered_some forms f (omega (arith, c.if-form-eq0.false)) (omega arith) ∙ ap {B = Option Coded} Some at in
    let reps = reps_of c.classes.result in (
      told_class forms f c.args.station network is reps c.classes.ensures.reps c.class_of-class.result c.ok_or.result c.class_of-class.ensures c.ok_or.ensures.value,
      carries_onto forms f c.args.station network is reps c.classes.ensures.reps c.classes.ensures.symmetric c.class_of-class.result c.ok_or.result c.class_of-class.ensures c.ok_or.ensures.ok_part,
    )

pub returns-in_err-bits-clause-class : goal.returns-in_err-bits-clause-class
returns-in_err-bits-clause-class g c =
    let p = err_from_is_err_and c.from_residual.result c.from_residual.ensures.1 in
    p.1 ∙ ap {B = Result ℕ Refusal} Err p.2 ∙ sym c.in_err-bits.was ∙ (told g ((goal.at.returns-in_err-bits-clause-class g c).After-ok_or)).0

pub returns : goal.returns
returns g c =
    let t = told g ((goal.at.returns g c).After-ok_or) in
    record {
      class = sym c.in_ok-bits.was ∙ t.0;
      symmetric = subst (CarriedOnto (held_of c.args.self.now).forms c.args.form c.args.station) c.in_ok-bits.was t.1;
    }
