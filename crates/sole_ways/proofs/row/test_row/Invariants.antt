-- The legs up to the part at hand are tested.
use Rattle.std.proofs.Common.{◌≡◌, ◌≤◌, ◌-◌}
use Rattle.model.specs.Map.{Map}
use Rattle.model.specs.Lines.{Connected}
use Rattle.model.specs.Reading.{greatest_leg_length}
use Rattle.work_area.specs.Mirror.{mirror}
use Rattle.search_cells.specs.Area.{Set}
use Rattle.sole_ways.specs.SoleWays.{Arriving, RowBefore}
use Rattle.sole_ways.proofs.RowLegs.{InRow}
use Rattle.sole_ways.proofs.row.test_row.Given as goal

abbrev pub invariant-loop-part : goal.invariant-loop-part
invariant-loop-part l =
    record {
      first : l.part.from ≡ l.i;
      after : l.i ≤ l.part.to;
      room : l.part.to ≤ l.end;
      short : l.part.length ≤ greatest_leg_length;
      row : (m : Map) → Set m l.stretch.lines l.initial.work → Connected (mirror m) l.stretch.numbers.now → Arriving m l.stretch.lines l.stretch.numbers.now l.arrivals →
          RowBefore (mirror m) l.stretch.numbers.now l.i l.initial.table →
          InRow m l.stretch.lines l.stretch.numbers.now l.i l.end l.initial.table l.table l.initial.work l.work l.last l.part;
    }

abbrev pub decreases-loop-part : goal.decreases-loop-part
decreases-loop-part l = l.end - l.part.to
