-- No node before node `v` is the one sought.
use Rattle.std.proofs.Common.{◌≡◌, ℕ, drop}
use Rattle.model.specs.Map.{Map}
use Rattle.model.specs.Locate.{seek}
use Rattle.work_area.specs.Area.{Holds}
use Rattle.references.specs.Node.{passes}
use Rattle.references.proofs.node.find.Given as goal

abbrev pub invariant-loop-v : goal.invariant-loop-v
invariant-loop-v l = (m : Map) (lines : ℕ) → Holds l.work l.nodes lines m → seek (passes l.sought) 0 m.nodes ≡ seek (passes l.sought) l.v (drop l.v m.nodes)
