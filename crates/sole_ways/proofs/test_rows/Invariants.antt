-- The rows before row `i` are tested, as far as the tests go, and the tests left are those less the legs of these rows.
use Rattle.std.proofs.Common.{◌≡◌, ◌-◌, length}
use Rattle.model.specs.Map.{Map}
use Rattle.model.specs.Lines.{Connected}
use Rattle.model.specs.LegTests.{legs_before}
use Rattle.work_area.specs.Mirror.{mirror}
use Rattle.search_cells.specs.Area.{Set}
use Rattle.sole_ways.specs.SoleWays.{Arriving, WalledIf}
use Rattle.sole_ways.proofs.Ordered.{Ordered}
use Rattle.sole_ways.proofs.test_rows.Given as goal

abbrev pub invariant-loop-i : goal.invariant-loop-i
invariant-loop-i l =
    record {
      left_over : l.left ≡ l.tests - legs_before (length l.stretch.numbers.now) l.i;
      ordered : (m : Map) → Set m l.stretch.lines l.initial.work → Connected (mirror m) l.stretch.numbers.now → Arriving m l.stretch.lines l.stretch.numbers.now l.arrivals →
          Ordered m l.stretch.lines l.stretch.numbers.now l.tests l.initial.table l.table l.initial.work l.work l.i × WalledIf (mirror m) l.stretch.numbers.now l.row.wall;
    }
