-- No test and no mark, or one of each.
use Rattle.std.proofs.Common.{arith}
use Rattle.leg_tests.proofs.FirstLeg.{none_marked, first_marked, no_test, one_test}
use Rattle.leg_tests.proofs.mark_first.Goals as goal

pub returns-then-tests-eq0 : goal.returns-then-tests-eq0
returns-then-tests-eq0 c = (no_test _ _ c.if-tests-eq0.true, none_marked c.requires.stretch_nonzero.2)

pub returns : goal.returns
returns c =
    let p = c.requires.stretch_nonzero in
    (one_test _ _ p.0 (omega arith) c.requires.fact, first_marked p.0 p.1 p.2)
