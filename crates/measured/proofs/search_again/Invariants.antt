-- The work area is still ready for searches after each search.
use Rattle.model.specs.Map.{Map}
use Rattle.search_cells.specs.Area.{Set}
use Rattle.measured.proofs.search_again.Given as goal

abbrev pub invariant-loop : goal.invariant-loop
invariant-loop l = (m : Map) × Set m l.lines l.work
