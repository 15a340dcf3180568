-- While a step is the only one, the lines are the only way.
use Rattle.std.proofs.Common.{◌≡◌, ◌≤◌}
use lib.Seq.{slice}
use Rattle.model.specs.Map.{Map}
use Rattle.model.specs.Lines.{Connected, total, lowest}
use Rattle.work_area.specs.Mirror.{mirror}
use Rattle.search_cells.specs.Area.{Set}
use Rattle.sole_ways.specs.declared.ahead.Along.{Along}
use Rattle.sole_ways.specs.SoleWays.{Follows}
use Rattle.sole_ways.proofs.Going.{Going}
use Rattle.sole_ways.proofs.along.advance.Given as goal

abbrev pub invariant-loop-at : goal.invariant-loop-at
invariant-loop-at l =
    (m : Map) (b : Along) → Set m l.stretch.lines l.work → Connected (mirror m) l.stretch.numbers.now → Follows m l.stretch.lines l.stretch.numbers.now l.from l.work b → b.to ≡ l.initial.at →
    total (mirror m) (slice l.from l.to l.stretch.numbers.now) ≤ b.limit → lowest (mirror m) (slice l.from l.to l.stretch.numbers.now) ≤ b.class →
    Going m l.stretch.lines l.stretch.numbers.now l.from l.to l.work b l.at
