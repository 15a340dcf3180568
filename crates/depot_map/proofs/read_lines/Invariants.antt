-- After `i` turns the first `i` lines are in the work area.
use mathlib.Core.List.{[]}
use lib.ListN.{drop}
use Rattle.model.specs.Map.{decode_lines}
use Rattle.work_area.specs.Held.{held_nodes}
use Rattle.depot_map.proofs.Stages.{LinesRead}
use Rattle.depot_map.proofs.read_lines.Given as goal

abbrev pub invariant-loop-i : goal.invariant-loop-i
invariant-loop-i l =
    LinesRead (decode_lines l.fn.count (drop l.fn.from l.fn.map) (held_nodes l.fn.work l.fn.nodes) []) l.fn.map l.at l.fn.nodes l.fn.count l.i l.fn.work l.work
