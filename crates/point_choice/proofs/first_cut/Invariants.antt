-- The legs that end before `j` are scanned.
use Rattle.point_choice.specs.Cuts.{GoodIn}
use Rattle.point_choice.proofs.Scan.{Scanned}
use Rattle.point_choice.proofs.first_cut.Given as goal

abbrev pub invariant-loop-j : goal.invariant-loop-j
invariant-loop-j l = Scanned (GoodIn l.good) l.best l.i l.j l.to l.least
