-- The numbers put lie inside the buffer.
use Prim.Native.Nat.{◌≤◌}
use lib.ListN.{length}
use Rattle.test_maps.proofs.put_chains.Given as goal

abbrev pub invariant-loop-l : goal.invariant-loop-l
invariant-loop-l l = l.n ≤ length l.turns
