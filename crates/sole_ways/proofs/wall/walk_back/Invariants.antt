-- What is gone back along is a way.
use Rattle.std.proofs.Common.{◌≡◌, ◌+◌, ◌<◌}
use Rattle.model.specs.Map.{Map}
use Rattle.work_area.specs.Mirror.{mirror}
use Rattle.search_cells.specs.Area.{Set, length_to}
use Rattle.sole_ways.specs.declared.ahead.Along.{Along}
use Rattle.sole_ways.specs.SoleWays.{Follows, Joins}
use Rattle.sole_ways.proofs.Walking.{WayBack}
use Rattle.sole_ways.proofs.wall.walk_back.Given as goal

abbrev pub invariant-loop-k : goal.invariant-loop-k
invariant-loop-k l =
    record {
      before : l.k < l.to;
      back : (m : Map) (b : Along) → Set m l.stretch.lines l.work → Follows m l.stretch.lines l.stretch.numbers.now l.i l.work b → b.to ≡ l.to →
          Joins m l.stretch.lines l.stretch.numbers.now l.to l.work l.last → WayBack (mirror m) l.stretch.lines b.limit l.work l.last l.at l.class;
    }

abbrev pub decreases-loop-k : goal.decreases-loop-k
decreases-loop-k l = l.k + length_to l.work l.at
