-- The way to a line and the next line: their lengths together are a number of 32 bits.
use Rattle.std.proofs.Common.{arith, ap}
use Rattle.search_cells.specs.Area.{length_to}
use Rattle.sole_ways.proofs.Sums.{no_overflow}
use Rattle.sole_ways.proofs.along.steps_on.Goals as goal

pub overflow_add-length_to : goal.overflow_add-length_to
overflow_add-length_to c =
    let p = c.requires in
    omega (
      arith,
      c.length_to-2.ensures,
      ap (length_to c.args.work.now) c.wide-before.ensures.0,
      c.field_of-length.ensures p.set.0 p.set.1.held,
      no_overflow c.args.stretch.numbers.now c.args.at _ p.set.1.held c.args.stretch.known p.bounds.1 p.bounds.2,
    )
