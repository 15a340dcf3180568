-- Those of the chain that are passed are marked.
use Rattle.std.proofs.Common.{◌≡◌}
use Rattle.work_area.specs.Area.{ban_chain}
use Rattle.model.specs.Map.{Map}
use Rattle.search_cells.specs.Area.{Mirrored}
use Rattle.expansion.proofs.Marking.{Marking}
use Rattle.expansion.proofs.mark_bans.Given as goal

abbrev pub invariant-loop-x : goal.invariant-loop-x
invariant-loop-x l = (m : Map) → Mirrored l.fn.work l.lines m → l.chain ≡ ban_chain m.bans l.l → Marking m l.lines l.l l.x l.fn.work l.work

abbrev pub decreases-loop-x : goal.decreases-loop-x
decreases-loop-x l = l.x
