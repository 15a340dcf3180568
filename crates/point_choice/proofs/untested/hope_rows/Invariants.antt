-- The rows before row `i` are done, and the tests left are those less the legs of these rows.
use Rattle.std.proofs.Common.{◌≡◌, ◌-◌}
use Rattle.model.specs.LegTests.{legs_before}
use Rattle.point_choice.proofs.NotTested.{RowsHoped}
use Rattle.point_choice.proofs.untested.hope_rows.Given as goal

abbrev pub invariant-loop-i : goal.invariant-loop-i
invariant-loop-i l = record { left_over : l.left ≡ l.tests - legs_before l.n l.i; rows : RowsHoped l.n l.tests l.initial.table l.table l.i }
