-- The refusal's number and place, field by field.
use Rattle.std.proofs.Common.{refl}
use Rattle.model.specs.Host.{host_point}
use Rattle.openlr.specs.Host.{as_point}
use Rattle.openlr.proofs.point.no_point.Goals as goal

pub returns : goal.returns
unfolding as_point host_point
returns c = rw (c.from-row.ensures.0, c.from-row.ensures.1) refl
