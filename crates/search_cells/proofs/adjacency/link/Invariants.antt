-- After `i` turns the adjacency lists of the lines below `i` are made.
use Rattle.model.specs.Map.{Map}
use Rattle.search_cells.specs.Area.{Mirrored}
use Rattle.search_cells.proofs.Leaving.{Linking}
use Rattle.search_cells.proofs.adjacency.link.Given as goal

abbrev pub invariant-loop-i : goal.invariant-loop-i
invariant-loop-i l = (m : Map) → Mirrored l.initial.work l.lines m → Linking l.initial.work l.i m l.work
