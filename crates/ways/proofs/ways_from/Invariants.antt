-- The walk from the first line on, by the predecessor of each on the mirrored map.
use Rattle.std.proofs.Common.{◌≡◌, ℕ}
use Rattle.model.specs.Map.{Map}
use Rattle.work_area.specs.Mirror.{mirror}
use Rattle.way_lengths.specs.declared.Terminus.{Terminus}
use Rattle.search_cells.specs.Area.{Searched, length_to, predecessor}
use Rattle.ways.proofs.Back.{Walked}
use Rattle.ways.proofs.ways_from.Given as goal

abbrev pub invariant-loop-x : goal.invariant-loop-x
invariant-loop-x l = record {
  here : l.x ≡ predecessor l.work l.at;
  walked : (m : Map) (c : ℕ) (to : Terminus) → Searched (mirror m) l.lines c to l.limit l.work →
      Walked (mirror m) l.lines c to l.limit l.work l.first l.at l.count;
}

abbrev pub decreases-loop-x : goal.decreases-loop-x
decreases-loop-x l = length_to l.work l.at
