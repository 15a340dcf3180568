-- A number more, and all of them.
use Rattle.std.proofs.Common.{arith}
use Rattle.cases.proofs.Sums.{one_more, no_more}
use Rattle.cases.proofs.sum_of.Goals as goal

pub loop-i-preserved : goal.loop-i-preserved
loop-i-preserved c =
    record { low = c.added-total.ensures.1; left = one_more _ _ _ _ _ c.loop-i.invariant.left (omega arith) c.added-total.ensures.0 }

pub returns : goal.returns
returns c = (no_more _ _ _ _ _ c.loop-i.invariant.left (omega arith), c.loop-i.invariant.low)
