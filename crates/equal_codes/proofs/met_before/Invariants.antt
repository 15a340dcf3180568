-- The walk along the chain of the node's bucket.
use Rattle.equal_codes.proofs.Chains.{Walk}
use Rattle.equal_codes.proofs.met_before.Given as goal

abbrev pub invariant-loop-k : goal.invariant-loop-k
invariant-loop-k l = Walk l.work l.j l.h l.k

abbrev pub decreases-loop-k : goal.decreases-loop-k
decreases-loop-k l = l.k
