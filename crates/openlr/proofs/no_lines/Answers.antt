-- The refusal's number and place, field by field.
use Rattle.std.proofs.Common.{refl}
use Rattle.model.specs.Host.{host_read}
use Rattle.openlr.specs.Host.{as_read}
use Rattle.openlr.proofs.no_lines.Goals as goal

pub returns : goal.returns
unfolding as_read host_read
returns c = rw (c.from-row.ensures.0, c.from-row.ensures.1) refl
