use Rattle.std.proofs.Common.{◌≡◌, ℕ, ◌-◌, length, ap, ◌∙◌, arith}
use Rattle.survey.specs.Without.{staying}
use Rattle.survey.proofs.TakenOut.{all_told}
use Rattle.survey.proofs.without.WithoutNetwork.stations.Goals as goal

pub overflow_sub-result : goal.overflow_sub-result
overflow_sub-result g c = omega (arith, all_told c.args.self.now.mask c.stations-count.result)

pub returns : goal.returns
returns g c =
    let mask = c.args.self.now.mask in
    let told = all_told mask c.stations-count.result in
    let left : c.stations-count.result - c.ones_below.result ≡ length (staying mask c.stations-count.result) = omega arith in
    left ∙ ap (λ (n : ℕ). length (staying mask n)) c.stations-count.ensures
