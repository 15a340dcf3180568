-- The legs from position `i` on are tested.
use Rattle.std.proofs.Common.{ℕ, ◌<◌, ◌≡◌}
use Rattle.model.specs.Map.{Map}
use Rattle.model.specs.Lines.{Connected}
use Rattle.search_cells.specs.Area.{Set}
use Rattle.sole_ways.specs.SoleWays.{mark}
use Rattle.leg_tests.specs.LegTests.{Noted, EndsThere, SoleColumn, ColumnKept}
use Rattle.leg_tests.proofs.Sifting.{Sifting}
use Rattle.leg_tests.proofs.columns.test_column.Given as goal

abbrev pub invariant-loop-i : goal.invariant-loop-i
invariant-loop-i l =
    record {
      kept : ColumnKept l.j l.initial.table l.table;
      earlier : (k : ℕ) → k < l.i → mark l.table k l.j ≡ mark l.initial.table k l.j;
      sifting : (m : Map) → Set m l.stretch.lines l.initial.work → Connected m l.stretch.numbers.now → EndsThere m l.stretch.lines l.stretch.numbers.now l.j l.to l.own →
          Noted m l.stretch.lines l.stretch.numbers.now l.initial.table → SoleColumn m l.stretch.numbers.now l.j l.initial.table →
          Sifting m l.stretch.lines l.stretch.numbers.now l.j l.to l.own l.initial.table l.table l.initial.work l.work l.last l.i;
    }
