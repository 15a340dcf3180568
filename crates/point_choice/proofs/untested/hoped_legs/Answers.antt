-- The legs that are good now are those that were good or not tested.
use Rattle.point_choice.proofs.NotTested.{hoped_fewest}
use Rattle.point_choice.proofs.untested.hoped_legs.Goals as goal

pub returns-clause-fewest : goal.returns-clause-fewest
returns-clause-fewest c = hoped_fewest _ c.hope_rows.ensures c.fewest_legs.ensures
