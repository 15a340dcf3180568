-- `put_codes` meets its contract: after i turns the codes of the first i nodes stand in the scratch.
use Prim.Native.Nat.{◌≤◌, ◌<◌}
use mathlib.Core.Path.{refl}
use lib.ListN.{length}
use native.Mathlib.Numerals.{towards_suc}
use Rattle.work_area.specs.Held.{held_node}
use Rattle.work_area.specs.Area.{chains_from}
use Rattle.equal_codes.proofs.EqualCodes.{codes_more}
use native.Mathlib.Omega.{arith}
use Rattle.model.specs.Map.{greatest_node_count}
use Rattle.equal_codes.proofs.put_codes.Goals as goal

pub loop-i-preserved : goal.loop-i-preserved
unfolding held_node
loop-i-preserved c =
    let l = c.loop-i in
    let small : l.i < greatest_node_count = omega arith in
    let fits : chains_from ≤ length l.work = omega arith in
    codes_more l.i _ _ small fits l.invariant (c.longitude_code-x.ensures _ refl) (c.latitude_code-y.ensures _ refl) (simp towards_suc)
