-- The numbers of the positions up to position `j` are made.
use Rattle.model.specs.Map.{Map}
use Rattle.search_cells.specs.Area.{Set}
use Rattle.leg_tests.specs.Arrivals.{Firsts}
use Rattle.leg_tests.proofs.arrivals.list_firsts.Given as goal

abbrev pub invariant-loop-j : goal.invariant-loop-j
invariant-loop-j l = (m : Map) → Set m l.stretch.lines l.work → Firsts m l.stretch.lines l.stretch.numbers.now l.j l.initial.arrivals l.arrivals
