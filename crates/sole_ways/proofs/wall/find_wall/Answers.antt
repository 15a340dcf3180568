-- The predecessor that the walk goes back from is a line that joins the stretch.
use Rattle.std.proofs.Common.{◌<◌, arith}
use Rattle.sole_ways.proofs.Walking.{last_joins}
use Rattle.sole_ways.proofs.wall.find_wall.Goals as goal

pub walk_back-requires-clause-set : goal.walk_back-requires-clause-set
walk_back-requires-clause-set c =
    let a = c.args in
    let q = c.requires.set in
    let here : c.wide-here.result < a.stretch.lines = omega (arith, a.stretch.known _ c.requires.bounds) in (
      q.0,
      q.1,
      q.2,
      last_joins q.0 a.stretch.numbers.now a.along.to q.2.searched here (omega arith) c.in-Some.ensures c.wide-here.ensures.0 c.wide-before.ensures.0
          c.if-last-before.false (omega arith),
    )

pub returns : goal.returns
returns c m set joint f old =
    let a = c.args in
    let here : c.wide-here.result < a.stretch.lines = omega (arith, a.stretch.known _ c.requires.bounds) in
    let joins = last_joins m a.stretch.numbers.now a.along.to f.searched here (omega arith) c.in-Some.ensures c.wide-here.ensures.0 c.wide-before.ensures.0
    c.if-last-before.false (omega arith) in
    c.walk_back.ensures m set joint f joins old
