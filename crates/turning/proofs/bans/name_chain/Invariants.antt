-- The turns of the chain that are not before `x` are done.
use Rattle.std.proofs.Common.{◌≡◌, List}
use Rattle.model.specs.Map.{Turn}
use Rattle.work_area.specs.Area.{ban_chain}
use Rattle.turning.specs.Bans.{ChainStands}
use Rattle.turning.proofs.Chains.{Walking}
use Rattle.turning.proofs.bans.name_chain.Given as goal

abbrev pub invariant-loop-x : goal.invariant-loop-x
invariant-loop-x l = (bans : List Turn) → ChainStands bans l.l l.fn.work → l.chain ≡ ban_chain bans l.l → Walking bans l.l l.x l.fn.work l.work

abbrev pub decreases-loop-x : goal.decreases-loop-x
decreases-loop-x l = l.x
