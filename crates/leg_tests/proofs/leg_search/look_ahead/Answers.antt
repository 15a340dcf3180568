-- A length that is summed up further is no longer than a leg can be.
use Rattle.std.proofs.Common.{◌-◌, arith}
use Rattle.sole_ways.proofs.Sums.{no_overflow}
use Rattle.leg_tests.proofs.leg_search.look_ahead.Goals as goal

pub overflow_add-far : goal.overflow_add-far
overflow_add-far c =
    let p = c.requires.held in
    let l = c.loop-k in
    omega (
      arith,
      c.field_of-far.ensures p.0 p.1,
      no_overflow c.args.stretch.numbers.now (l.k - 1) l.far p.1 c.args.stretch.known (omega arith) (omega arith),
    )
