-- The cuts up to position `i` are written.
use Rattle.std.proofs.Common.{◌≤◌, ◌-◌}
use Rattle.point_choice.specs.Cuts.{GoodIn}
use Rattle.point_choice.proofs.Walk.{Walked}
use Rattle.point_choice.proofs.choose.Given as goal

abbrev pub invariant-loop-i : goal.invariant-loop-i
invariant-loop-i l = record { within : l.i ≤ l.n; walked : Walked (GoodIn l.good) l.n l.initial.cuts l.cuts l.i l.k }

abbrev pub decreases-loop-i : goal.decreases-loop-i
decreases-loop-i l = l.n - l.i
