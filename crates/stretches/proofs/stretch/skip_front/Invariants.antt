-- Skipping from the start is skipping from `at` on.
use Rattle.std.proofs.Common.{◌≡◌, drop}
use Rattle.model.specs.Map.{Map}
use Rattle.model.specs.Stretch.{skip}
use Rattle.work_area.specs.Area.{Held}
use Rattle.stretches.proofs.stretch.skip_front.Given as goal

abbrev pub invariant-loop-at : goal.invariant-loop-at
invariant-loop-at l = (m : Map) → Held l.work l.stretch.lines m → skip m l.offset l.stretch.numbers.now ≡ skip m l.left (drop l.at l.stretch.numbers.now)
