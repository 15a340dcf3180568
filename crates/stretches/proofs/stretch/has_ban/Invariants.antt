-- There is no banned pair up to line `i - 1`.
use Rattle.std.proofs.Common.{◌≡◌, drop, ◌-◌}
use Rattle.model.specs.Map.{Map}
use Rattle.model.specs.Stretch.{banned_pair}
use Rattle.work_area.specs.Area.{Held}
use Rattle.stretches.proofs.stretch.has_ban.Given as goal

abbrev pub invariant-loop-i : goal.invariant-loop-i
invariant-loop-i l = (m : Map) → Held l.work l.stretch.lines m → banned_pair m l.stretch.numbers.now ≡ banned_pair m (drop (l.i - 1) l.stretch.numbers.now)
