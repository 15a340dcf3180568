-- One row more.
use Rattle.std.proofs.Common.{◌-◌, ◌+◌, ◌*◌, min, ◌≡◌, arith}
use Rattle.point_choice.proofs.NotTested.{left_none, left_on, part_filled, row_filled, rows_none, rows_more, rows_all}
use Rattle.point_choice.proofs.untested.hope_rows.Goals as goal

pub loop-i-init : goal.loop-i-init
loop-i-init c = record { left_over = left_none c.args.n c.args.tests; rows = rows_none }

pub loop-i-preserved : goal.loop-i-preserved
loop-i-preserved c =
    let n = c.args.n in
    let l = c.loop-i in
    let end = l.i + c.min.result in
    let e : end ≡ min n (l.i + l.left) = omega arith in
    let row = part_filled (65 * l.i + end + 1) (n - end) (65 * l.i + n + 1) 1 l.table c.fill.new.self (omega arith) (omega arith) (c.fill.ensures.after (λ y q. q)) in
    record {
      left_over = left_on n c.args.tests l.i end l.left c.loop-i-test.true l.invariant.left_over e;
      rows = rows_more (omega arith) c.loop-i-test.true l.invariant.left_over e l.invariant.rows (row_filled n l.i end (omega arith) row);
    }

pub returns : goal.returns
returns c = rows_all (omega arith) c.loop-i.invariant.rows
