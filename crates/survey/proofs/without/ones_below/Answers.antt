use Rattle.std.proofs.Common.{ℕ, ◌-◌, ◌^◌, ◌<◌, sym, ap, ◌∙◌, mod-eq_of_lt, arith}
use lib.Bits.{bit_and, and_mask}
use lib.Count.{ones}
use Rattle.std.proofs.lemmas.Nat.{one_shl}
use Rattle.survey.proofs.TakenOut.{ones_low, taken_past}
use Rattle.survey.proofs.without.ones_below.Goals as goal

pub returns-then-station-lt-BITS : goal.returns-then-station-lt-BITS
returns-then-station-lt-BITS c =
    let mask = c.args.mask in
    let k = c.args.station in
    ap (λ (m : ℕ). ones (bit_and mask (m - 1))) (one_shl k 64 c.if-station-lt-BITS.true) ∙ ap ones (and_mask mask k) ∙ ones_low mask k

pub returns-else-station-lt-BITS : goal.returns-else-station-lt-BITS
returns-else-station-lt-BITS c =
    let mask = c.args.mask in
    let fits : mask < 2 ^ 64 = omega arith in
    ap ones (sym (mod-eq_of_lt fits)) ∙ ones_low mask 64 ∙ sym (taken_past mask 64 c.args.station fits c.if-station-lt-BITS.false)
