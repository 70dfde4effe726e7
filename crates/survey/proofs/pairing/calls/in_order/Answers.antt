use Rattle.std.proofs.Common.{rules}
use Rattle.survey.proofs.pairing.calls.in_order.Goals as goal

pub returns : goal.returns
returns c u h = let called = (c.from_fn.ensures.items.at u 0 h).2 in search rules
