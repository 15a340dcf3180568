-- A byte more, and all of them.
use Rattle.std.proofs.Common.{arith, ap, ◌∙◌, ◌≡◌, ◌-◌}
use Rattle.cases.specs.Sum.{added_to, sum_from}
use Rattle.cases.proofs.Sums.{one_more, no_more}
use Rattle.cases.proofs.sum_of_bytes.Goals as goal

pub loop-i-init : goal.loop-i-init
loop-i-init c = let all : c.args.to - 0 ≡ c.args.to = omega arith in record { low = omega arith; left = ap (λ n. sum_from c.args.bytes.now 0 n 0) all }

pub loop-i-preserved : goal.loop-i-preserved
loop-i-preserved c =
    let step = c.added-total.ensures.0 ∙ ap (added_to _) c.from.ensures in
    record { low = c.added-total.ensures.1; left = one_more _ _ _ _ _ c.loop-i.invariant.left (omega arith) step }

pub returns : goal.returns
returns c = (no_more _ _ _ _ _ c.loop-i.invariant.left (omega arith), c.loop-i.invariant.low)
