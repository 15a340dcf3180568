-- The sum is that of the numbers that the bits stand for.
use borrow.Author.Rules.{rules}
use Rattle.map_sum.proofs.Weighing.{weighs}
use Rattle.map_sum.proofs.weighed.Goals as goal

pub returns : goal.returns
returns c =
    let w = weighs c.args.sum c.args.byte c.args.weight c.ranges.sum (search rules) c.ranges.weight c.requires in
    rw (c.from.ensures, c.from-2.ensures) (w.is, w.small)
