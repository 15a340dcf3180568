-- What the table has of the start.
use Rattle.std.proofs.Common.{arith}
use Rattle.point_choice.proofs.Routes.{told_none}
use Rattle.point_choice.proofs.fewest_legs.Goals as goal

pub returns-then-legs-eq-NO_ROUTE : goal.returns-then-legs-eq-NO_ROUTE
returns-then-legs-eq-NO_ROUTE c = told_none (omega arith) (c.fewest.ensures 0 (omega arith) (omega arith)) (omega arith)
