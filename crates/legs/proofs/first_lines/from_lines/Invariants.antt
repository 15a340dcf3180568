-- The verdict on the first lines at the first `i` places of the list.
use Rattle.model.specs.Map.{Map}
use Rattle.work_area.specs.Mirror.{mirror}
use Rattle.way_lengths.specs.declared.Terminus.{Terminus}
use Rattle.search_cells.specs.Area.{Chained, Among}
use Rattle.fields.specs.Leg.{leg_in}
use Rattle.legs.specs.Verdict.{Ready, Says, StandsIn, ReadingAmong}
use Rattle.legs.proofs.first_lines.from_lines.Given as goal

abbrev pub invariant-loop-i : goal.invariant-loop-i
invariant-loop-i l =
    (m : Map) (to : Terminus) → Ready m l.lines l.leg to l.limit l.work → Chained l.work l.lines (mirror m) →
    Says m (ReadingAmong m (leg_in l.leg) (Among l.work l.lines l.i) to) (StandsIn l.work) l.found
