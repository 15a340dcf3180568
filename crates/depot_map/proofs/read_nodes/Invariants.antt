-- After `i` turns the first `i` nodes are in the work area.
use mathlib.Core.List.{[]}
use lib.ListN.{drop}
use Rattle.model.specs.Map.{decode_nodes}
use Rattle.depot_map.proofs.Stages.{NodesRead}
use Rattle.depot_map.proofs.read_nodes.Given as goal

abbrev pub invariant-loop-i : goal.invariant-loop-i
invariant-loop-i l = NodesRead (decode_nodes l.fn.count (drop l.fn.from l.fn.map) []) l.fn.map l.at l.fn.count l.i l.fn.work l.work
