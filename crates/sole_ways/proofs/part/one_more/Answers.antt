-- Class and length take the next line in, and no sum overflows.
use Rattle.std.proofs.Common.{arith}
use Rattle.sole_ways.proofs.Parts.{measures_more}
use Rattle.sole_ways.proofs.Sums.{no_overflow}
use Rattle.sole_ways.proofs.part.one_more.Goals as goal

pub overflow_add-length : goal.overflow_add-length
overflow_add-length c =
    let p = c.requires in
    omega (
      arith,
      c.field_of.ensures p.held.0 p.held.1,
      no_overflow c.args.stretch.numbers.now c.args.part.to c.args.part.length p.held.1 c.args.stretch.known p.bounds.0 p.bounds.1,
    )

pub returns-clause-measures : goal.returns-clause-measures
returns-clause-measures c m held x =
    let a = c.args in
    rw c.max.ensures (measures_more m a.stretch.numbers.now a.part _ _ c.requires.bounds.0 (c.field_of-frc.ensures m held) (c.field_of.ensures m held) x)
