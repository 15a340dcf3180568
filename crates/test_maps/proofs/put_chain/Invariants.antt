-- The numbers put lie inside the buffer, and each turn of the chain is an earlier one.
use Prim.Native.Nat.{◌≤◌}
use lib.ListN.{length}
use Rattle.test_maps.proofs.put_chain.Given as goal

abbrev pub invariant-loop-x : goal.invariant-loop-x
invariant-loop-x l = l.n ≤ length l.turns

abbrev pub decreases-loop-x : goal.decreases-loop-x
decreases-loop-x l = l.x
