-- The walk along the chain.
use Prim.Native.Nat.{ℕ, ◌≤◌}
use mathlib.Core.Path.{◌≡◌}
use mathlib.Core.List.{List}
use Rattle.model.specs.Map.{Turn, greatest_ban_count}
use Rattle.work_area.specs.Area.{ban_chain, BansHeld}
use Rattle.banned_turns.proofs.Chains.{WalkAt}
use Rattle.banned_turns.proofs.in_chain.Given as goal

abbrev pub invariant-loop-x : goal.invariant-loop-x
invariant-loop-x l =
    (l.x ≤ greatest_ban_count) × ((bans : List Turn) (m : ℕ) → BansHeld l.work l.lines bans → l.chain ≡ ban_chain bans m → WalkAt bans m l.k l.x)

abbrev pub decreases-loop-x : goal.decreases-loop-x
decreases-loop-x l = l.x
