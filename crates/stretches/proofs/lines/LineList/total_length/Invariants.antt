-- The sum is that of the lines before `i`.
use Rattle.std.proofs.Common.{◌≡◌, take}
use Rattle.work_area.specs.Area.{Held}
use Rattle.model.specs.Map.{Map}
use Rattle.model.specs.Lines.{total}
use Rattle.stretches.proofs.lines.LineList.total_length.Given as goal

abbrev pub invariant-loop-i : goal.invariant-loop-i
invariant-loop-i l = (m : Map) → Held l.work l.self.lines m → l.sum ≡ total m (take l.i l.self.numbers.now)
