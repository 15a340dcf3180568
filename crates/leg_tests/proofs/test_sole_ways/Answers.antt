-- The first leg by itself, or the rows.
use Rattle.model.proofs.Joining.{filled}
use Rattle.leg_tests.proofs.FirstLeg.{first_tested}
use Rattle.leg_tests.proofs.test_sole_ways.Goals as goal

pub mark_first-requires-clause-stretch_nonzero : goal.mark_first-requires-clause-stretch_nonzero
mark_first-requires-clause-stretch_nonzero c = let p = c.requires.stretch_len_bound in (filled c.requires.set.2, p.1, p.2)

pub returns-then-stretch-le1-clause-sole_tested : goal.returns-then-stretch-le1-clause-sole_tested
returns-then-stretch-le1-clause-sole_tested c m set joint = first_tested set c.args.stretch.numbers.now c.args.stretch.known c.mark_first.ensures.1

pub mark_first-requires-then-tests-le1-clause-stretch_nonzero : goal.mark_first-requires-then-tests-le1-clause-stretch_nonzero
mark_first-requires-then-tests-le1-clause-stretch_nonzero c =
    let p = c.requires.stretch_len_bound in
    (filled c.requires.set.2, p.1, p.2)

pub returns-then-tests-le1-clause-sole_tested : goal.returns-then-tests-le1-clause-sole_tested
returns-then-tests-le1-clause-sole_tested c m set joint =
    first_tested set c.args.stretch.numbers.now c.args.stretch.known c.mark_first-then-tests-le1.ensures.1
