-- The lines before position `i` are noted.
use Rattle.std.proofs.Common.{ℕ, ◌*◌, ◌<◌, length, get_or}
use Rattle.model.specs.Map.{Map}
use Rattle.work_area.specs.Area.{Held}
use Rattle.sole_ways.specs.SoleWays.{Marks}
use Rattle.leg_tests.specs.LegTests.{Alone, NotesKept}
use Rattle.leg_tests.specs.Leaving.{Leaving}
use Rattle.leg_tests.proofs.note_alone.Given as goal

abbrev pub invariant-loop-i : goal.invariant-loop-i
invariant-loop-i l =
    record {
      kept : NotesKept (length l.stretch.numbers.now) l.initial.table l.table;
      noted : (m : Map) → Held l.work l.stretch.lines m → Leaving m l.stretch.lines l.work → (k : ℕ) → k < l.i →
          Marks (Alone m l.stretch.lines l.stretch.numbers.now k) (get_or l.table (65 * k) 0);
    }
