-- The verdict on the termini that the walk has passed.
use Rattle.std.proofs.Common.{◌<◌, length}
use Rattle.model.specs.Map.{Map}
use Rattle.search_cells.specs.Area.{Set}
use Rattle.legs.specs.Verdict.{Anywhere}
use Rattle.reference_legs.proofs.OneMore.{Walked}
use Rattle.test_legs.proofs.verdict.Given as goal

abbrev pub invariant-loop-at : goal.invariant-loop-at
invariant-loop-at l = (m : Map) → Set m l.lines l.initial.work → l.leg.to < length m.nodes → Walked m l.lines l.leg Anywhere l.initial.work l.work l.at l.found

abbrev pub decreases-loop-at : goal.decreases-loop-at
decreases-loop-at l = l.at
