-- After `i` turns of the loop the first `i` turns are turned round.
use Rattle.std.proofs.Common.{◌≡◌, List, length}
use Rattle.model.specs.Map.{Turn}
use Rattle.turning.specs.Bans.{Known, Paired}
use Rattle.turning.proofs.Pairs.{Turning}
use Rattle.turning.proofs.bans.put_turned.Given as goal

abbrev pub invariant-loop-i : goal.invariant-loop-i
invariant-loop-i l =
    (bans : List Turn) → Paired l.fn.work l.lines bans → Known l.lines bans → l.count ≡ length bans → Turning l.lines bans l.i l.fn.work l.work
