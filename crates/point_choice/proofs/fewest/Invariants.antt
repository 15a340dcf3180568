-- The positions from `i` on are told.
use Rattle.std.proofs.Common.{◌≡◌, length}
use Rattle.point_choice.specs.Cuts.{GoodIn, TellsFewest}
use Rattle.point_choice.proofs.fewest.Given as goal

abbrev pub invariant-loop-i : goal.invariant-loop-i
invariant-loop-i l = record { whole : length l.best ≡ 65; told : TellsFewest (GoodIn l.good) l.n l.best l.i }
