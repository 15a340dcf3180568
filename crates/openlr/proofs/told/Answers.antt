-- The count of bytes, the tests and the excess, or the refusal's number.
use Rattle.openlr.specs.Host.{as_written}
use Rattle.openlr.proofs.HostWriting.{host_wrote_bytes, host_wrote_none}
use Rattle.openlr.proofs.told.Goals as goal

pub returns-in-Ok : goal.returns-in-Ok
unfolding as_written
returns-in-Ok c o h = host_wrote_bytes c.in-Ok.is h

pub returns-in-Err : goal.returns-in-Err
unfolding as_written
returns-in-Err c o h = host_wrote_none c.in-Err.is c.number_of.ensures h
