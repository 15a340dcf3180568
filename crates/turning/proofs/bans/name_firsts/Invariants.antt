-- After `l` turns the chains of the lines below `l` are gone through.
use Rattle.std.proofs.Common.{List}
use Rattle.model.specs.Map.{Turn}
use Rattle.work_area.specs.Area.{BansHeld}
use Rattle.turning.proofs.Firsts.{Naming}
use Rattle.turning.proofs.bans.name_firsts.Given as goal

abbrev pub invariant-loop-l : goal.invariant-loop-l
invariant-loop-l l = (bans : List Turn) → BansHeld l.fn.work l.lines bans → Naming l.lines bans l.l l.fn.work l.work
