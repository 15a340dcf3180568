-- Of the first `j` nodes, each has other codes than those before it.
use Prim.Native.Nat.{ℕ, ◌<◌}
use mathlib.Core.Path.{◌≡◌}
use mathlib.Core.Bool.{false}
use Rattle.model.specs.Map.{among}
use Rattle.buffers.specs.Kept.{Kept}
use Rattle.work_area.specs.Held.{held_node, held_nodes}
use Rattle.work_area.specs.Area.{chains_from, codes_to}
use Rattle.equal_codes.specs.Codes.{Chains}
use Rattle.equal_codes.proofs.some_met.Given as goal

abbrev pub invariant-loop-j : goal.invariant-loop-j
invariant-loop-j l =
    Kept chains_from codes_to l.fn.work l.work × Chains l.work l.j × ((k : ℕ) → k < l.j → among (held_node l.fn.work k) (held_nodes l.fn.work k) ≡ false)
