-- The way breaks before the last line, or goes to it; and there a rival may arrive.
use Rattle.std.proofs.Common.{arith}
use Rattle.sole_ways.proofs.Testing.{not_upto, sole_last, sole_node}
use Rattle.sole_ways.proofs.test.is_sole.Goals as goal

pub returns-then-at-part : goal.returns-then-at-part
returns-then-at-part c m a set t arriving f served adv sole = not_upto t f served adv c.if-at-part.true sole

pub returns-then-part-stretch : goal.returns-then-part-stretch
returns-then-part-stretch c m a set t arriving f served adv = sole_last t f served adv (omega arith) c.if-part-stretch.true

pub returns : goal.returns
returns c m a set t arriving f served adv =
    sole_node t f served adv (omega arith) c.if-part-stretch.false c.has_rival.result (c.has_rival.ensures m set arriving)
