use Rattle.std.proofs.Common.{ℕ, ◌+◌, ◌-◌, map, length, sym, refl, ap, ◌∙◌, arith}
use Rattle.std.specs.List.{range_with_len}
use Rattle.search.specs.Meanings.{coded}
use Rattle.search.specs.Searches.{searched}
use Rattle.atlas.specs.Blocks.{form_in}
use Rattle.atlas.specs.Calls.{sought_in}
use Rattle.atlas.specs.Holding.{held_of, bytes_of}
use Rattle.atlas.proofs.FormByForm.{tried, Turn, from_form, begun, here_within, here_told, here_images, later_within, later, spent_told, none_left}
use Rattle.atlas.proofs.Holding.{forms_held, forms_length}
use Rattle.atlas.proofs.Atlas.seek.Goals as goal
use Rattle.atlas.proofs.Atlas.seek.Goals.{After-form-form}

pub loop-k-init : goal.loop-k-init
unfolding bytes_of
loop-k-init g c =
    let a = c.args.self.now in
    let h = coded c.args.network.now in (
      omega arith,
      refl,
      begun h (form_in (bytes_of a)) (length (held_of a).forms) ∙ ap (sought_in h 1) (sym (forms_held a)),
    )

pub overflow_cast-result : goal.overflow_cast-result
overflow_cast-result g c = record { fits = omega (arith, c.loop-k-test.true, c.count-k-end.ensures, forms_length c.args.self.now) }

pub overflow_add-result : goal.overflow_add-result
overflow_add-result g c = record { fits = omega (arith, c.loop-k-test.true, c.count-k-end.ensures, forms_length c.args.self.now) }

-- this turn searches one form, and the turns after it the others
turn :
    (g : _) (c : After-form-form g) →
    Turn (c.loop-k.k + 1) (coded c.form-form.result) (searched (coded c.form-form.result) (coded c.args.network.now))
    (sought_in (coded c.args.network.now) (c.loop-k.k + 1 + 1) (map (form_in (bytes_of c.args.self.now)) (range_with_len (c.loop-k.k + 1) (length (held_of c.args.self.now).forms - (c.loop-k.k + 1)))))
    c.args.allowance c.loop-k.trials (sought_in (coded c.args.network.now) 1 (held_of c.args.self.now).forms)
turn g c =
    from_form (coded c.args.network.now) _ _ _ _ _ _ _ (omega (arith, c.loop-k-test.true, c.count-k-end.ensures)) c.form-form.ensures c.loop-k.invariant.0 c.loop-k.invariant.2

pub overflow_add-result-in-Map : goal.overflow_add-result-in-Map
overflow_add-result-in-Map g c =
    let within = here_within (turn g (goal.at.overflow_add-result-in-Map g c).After-form-form) c.in-Map.more c.in-Map.ensures.answer in
    record { fits = omega (arith, within, c.ranges.allowance.fits) }

pub returns-in-Map : goal.returns-in-Map
returns-in-Map g c =
    let this = turn g (goal.at.returns-in-Map g c).After-form-form in
    let said = c.in-Map.ensures.answer in
    record {
      answer = here_told this c.in-Map.more said;
      placed = c.in-Map.ensures.placed ∙ here_images this c.in-Map.more said;
    }

pub overflow_add-trials : goal.overflow_add-trials
overflow_add-trials g c =
    let within = later_within (turn g (goal.at.overflow_add-trials g c).After-form-form) c.in-NoMap.more c.in-NoMap.ensures.answer in
    record { fits = omega (arith, within, c.ranges.allowance.fits) }

pub returns-in-Spent : goal.returns-in-Spent
returns-in-Spent g c = record {
  answer = spent_told (turn g (goal.at.returns-in-Spent g c).After-form-form) c.in-Spent.ensures.answer;
  placed = c.in-Spent.ensures.placed ∙ c.loop-k.invariant.1;
}

pub loop-k-preserved : goal.loop-k-preserved
loop-k-preserved g c =
    let this = turn g (goal.at.loop-k-preserved g c).After-form-form in
    let said = c.in-NoMap.ensures.answer in
    (later_within this c.in-NoMap.more said, c.in-NoMap.ensures.placed ∙ c.loop-k.invariant.1, later this c.in-NoMap.more said)

pub returns : goal.returns
returns g c =
    let a = c.args.self.now in
    let h = coded c.args.network.now in
    let k = c.loop-k.k in
    let whole = sought_in h 1 (held_of a).forms in
    let none = ap (λ (j : ℕ). tried c.loop-k.trials (sought_in h (k + 1) (map (form_in (bytes_of a)) (range_with_len k j)))) {x = 0} {y = length (held_of a).forms - k} (omega (arith, c.count-k-end.ensures)) in
    record {
      answer = none_left h (k + 1) c.loop-k.trials c.args.allowance whole c.loop-k.invariant.0 (none ∙ c.loop-k.invariant.2);
      placed = c.loop-k.invariant.1;
    }
