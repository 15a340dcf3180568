-- Verdict by verdict.
use Rattle.std.proofs.Common.{subst, arith}
use Rattle.legs.specs.Verdict.{Says, Anywhere, ReadingTo}
use Rattle.leg_tests.proofs.Sole.{none_here, one_other_first, one_other_length, one_own, several_not}
use Rattle.leg_tests.proofs.leg_search.is_sole.Goals as goal

pub returns-then-reading-first : goal.returns-then-reading-first
returns-then-reading-first c m leg ls to o says =
    one_other_first o (subst (Says m (ReadingTo m leg to) Anywhere) c.in-One.is says) c.if-reading-first.true

pub returns-then-reading-len : goal.returns-then-reading-len
returns-then-reading-len c m leg ls to o says =
    one_other_length o (subst (Says m (ReadingTo m leg to) Anywhere) c.in-One.is says) (λ e. omega (arith, c.if-reading-len.true))

pub returns-in-Unread : goal.returns-in-Unread
returns-in-Unread c m leg ls to o says = none_here o (subst (Says m (ReadingTo m leg to) Anywhere) c.in-Unread.is says)

pub returns-else-reading-len : goal.returns-else-reading-len
returns-else-reading-len c m leg ls to o says =
    one_own o (subst (Says m (ReadingTo m leg to) Anywhere) c.in-One.is says) c.if-reading-first.false (omega (arith, c.if-reading-len.false))

pub returns-in-Several : goal.returns-in-Several
returns-in-Several c m leg ls to o says = several_not (subst (Says m (ReadingTo m leg to) Anywhere) c.in-Several.is says)
