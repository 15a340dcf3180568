-- The numbers of the lines before line `l` are made.
use Rattle.model.specs.Map.{Map}
use Rattle.search_cells.specs.Area.{Set}
use Rattle.leg_tests.specs.Arrivals.{Nexts}
use Rattle.leg_tests.proofs.arrivals.list_nexts.Given as goal

abbrev pub invariant-loop-l : goal.invariant-loop-l
invariant-loop-l l = (m : Map) → Set m l.lines l.work → Nexts m l.lines l.l l.initial.arrivals l.arrivals
