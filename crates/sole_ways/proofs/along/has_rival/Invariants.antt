-- Of the lines that arrive there, those that are passed are no rivals.
use Rattle.model.specs.Map.{Map}
use Rattle.search_cells.specs.Area.{Set}
use Rattle.sole_ways.specs.SoleWays.{Arriving}
use Rattle.sole_ways.proofs.Rivals.{Passed}
use Rattle.sole_ways.proofs.along.has_rival.Given as goal

abbrev pub invariant-loop-at : goal.invariant-loop-at
invariant-loop-at l = (m : Map) → Set m l.stretch.lines l.work → Arriving m l.stretch.lines l.stretch.numbers.now l.arrivals → Passed m l.stretch.lines l.own l.work l.at

abbrev pub decreases-loop-at : goal.decreases-loop-at
decreases-loop-at l = l.at
