-- `in_chain` meets its contract: the walk along the chain.
use Prim.Native.Nat.{ℕ}
use mathlib.Core.Path.{◌≡◌, ◌∙◌}
use mathlib.Core.List.{List}
use native.Mathlib.Omega.{arith}
use Rattle.model.specs.Map.{Turn}
use Rattle.work_area.specs.Area.{ban_chain, BansHeld}
use Rattle.banned_turns.proofs.Chains.{walk_start, walk_on, walk_less}
use Rattle.banned_turns.proofs.in_chain.Goals as goal

pub loop-x-init : goal.loop-x-init
loop-x-init c =
    let p = c.requires.by_index in
    (omega (arith, p.2.few, (walk_start p.2 p.1 c.args.k _ p.3).within), λ bans m held e. walk_start held m _ _ e)

pub loop-x-smaller : goal.loop-x-smaller
loop-x-smaller c =
    let p = c.requires.by_index in
    omega (arith, c.wide-x.ensures.0, walk_less p.2 p.1 _ _ (omega arith) (c.loop-x.invariant.1 p.0 p.1 p.2 p.3))

pub loop-x-preserved : goal.loop-x-preserved
loop-x-preserved c =
    let p = c.requires.by_index in
    let on = λ (bans : List Turn) (m : ℕ) (held : BansHeld c.args.work.now c.args.lines bans) (e : c.args.chain ≡ ban_chain bans m).
    walk_on held m _ _ (omega arith) (c.loop-x.invariant.1 bans m held e) (λ same. c.if-wide-k.false (c.wide.ensures.0 ∙ same)) in
    (omega (arith, c.wide-x.ensures.0, p.2.few, (on p.0 p.1 p.2 p.3).within), λ bans m held e. rw c.wide-x.ensures.0 (on bans m held e))
