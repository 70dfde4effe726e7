use Rattle.std.proofs.Common.{◌≡◌, ℕ, ◌+◌, ◌-◌, ◌^◌, ◌<◌, ◌≤◌, min, sym, ap, ◌∙◌, arith}
use Rattle.survey.specs.Without.{taken_below}
use Rattle.survey.proofs.TakenOut.{all_told, old_here, old_past, passes_out, passes_other}
use Rattle.survey.proofs.without.old_number.Goals as goal
use Rattle.survey.proofs.without.old_number.Goals.{else-not-is_out-via-then-not-is_out+else-old-ones_below, else-not-is_out-via-else-not-is_out}

pub overflow_sub-old : goal.overflow_sub-old
overflow_sub-old c = omega (arith, all_told c.args.mask c.loop-old.old)

pub returns-then-old-ones_below : goal.returns-then-old-ones_below
returns-then-old-ones_below c =
    let u = c.loop-old.old in
    let here : u - taken_below c.args.mask u ≡ c.args.station = omega arith in
    old_here c.args.mask c.args.count u c.args.station (omega arith) (sym c.if-not-is_out.ensures) here

pub loop-old-preserved : goal.loop-old-preserved
loop-old-preserved c =
    let mask = c.args.mask in
    let u = c.loop-old.old in
    let w = c.args.station in
    elim c.else-not-is_out.branch [
      | else-not-is_out-via-then-not-is_out+else-old-ones_below r ↦ passes_other mask u w (λ e. r.if-old-ones_below.false (ap (λ (n : ℕ). u - n) r.ones_below.ensures ∙ e)) c.loop-old.invariant
      | else-not-is_out-via-else-not-is_out r ↦ passes_out mask u w (sym c.is_out.ensures ∙ r.if-not-is_out.false) c.loop-old.invariant
    ]

pub returns : goal.returns
returns c =
    let mask = c.args.mask in
    let n = c.args.count in
    let w = c.args.station in
    let m : c.loop-old.old ≡ min n 64 = omega arith in
    let low : min n 64 - taken_below mask (min n 64) ≤ w = omega (arith, ap (taken_below mask) m, c.loop-old.invariant) in
    let fits : mask < 2 ^ 64 = omega arith in
    let told : c.min.result ≡ min (w + c.ones_below-2.result) n = omega arith in
    told ∙ ap (λ (k : ℕ). min (w + k) n) c.ones_below-2.ensures ∙ old_past mask 64 n w fits low
