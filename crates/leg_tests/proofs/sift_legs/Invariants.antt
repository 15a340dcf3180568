-- The columns before position `j` are tested.
use Rattle.model.specs.Map.{Map}
use Rattle.model.specs.Lines.{Connected}
use Rattle.search_cells.specs.Area.{Set}
use Rattle.leg_tests.specs.LegTests.{Noted, SoleLegs}
use Rattle.leg_tests.proofs.Walking.{Columns}
use Rattle.leg_tests.proofs.sift_legs.Given as goal

abbrev pub invariant-loop-j : goal.invariant-loop-j
invariant-loop-j l =
    (m : Map) → Set m l.stretch.lines l.initial.work → Connected m l.stretch.numbers.now → Noted m l.stretch.lines l.stretch.numbers.now l.initial.table → SoleLegs m l.stretch.numbers.now l.initial.table →
    Columns m l.stretch.lines l.stretch.numbers.now l.initial.table l.table l.initial.work l.work l.j
