-- The walk along the chain.
use Rattle.std.proofs.Common.{arith}
use Rattle.turning.proofs.Chains.{walking_start, walking_less, walking_on}
use Rattle.turning.proofs.bans.name_chain.Goals as goal

pub loop-x-init : goal.loop-x-init
loop-x-init c = λ bans stands e. walking_start e

pub loop-x-smaller : goal.loop-x-smaller
loop-x-smaller c =
    let p = c.requires.chain_stands in
    walking_less p.1 (c.loop-x.invariant p.0 p.1 p.2) c.loop-x-test.true c.wide-x.ensures.0

pub loop-x-preserved : goal.loop-x-preserved
loop-x-preserved c =
    λ bans stands e.
    let few = stands.few in
    let at = c.loop-x.invariant bans stands e in
    let within = at.within in
    walking_on stands at c.loop-x-test.true c.wide-x.ensures.0 (omega arith)
