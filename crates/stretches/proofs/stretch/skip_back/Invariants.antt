-- Skipping from the end is skipping from before `last` back.
use Rattle.std.proofs.Common.{◌≡◌, reverse, take}
use Rattle.model.specs.Map.{Map}
use Rattle.model.specs.Stretch.{skip}
use Rattle.work_area.specs.Area.{Held}
use Rattle.stretches.proofs.stretch.skip_back.Given as goal

abbrev pub invariant-loop-last : goal.invariant-loop-last
invariant-loop-last l = (m : Map) → Held l.work l.stretch.lines m → skip m l.offset (reverse l.stretch.numbers.now) ≡ skip m l.left (reverse (take l.last l.stretch.numbers.now))
