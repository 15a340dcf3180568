-- The count of bytes, or the refusal's number.
use Rattle.openlr.specs.Host.{as_point_written}
use Rattle.openlr.proofs.PointWriting.{host_wrote_point, host_wrote_no_point}
use Rattle.openlr.proofs.point.told.Goals as goal

pub returns-in-Ok : goal.returns-in-Ok
unfolding as_point_written
returns-in-Ok c o h = host_wrote_point c.in-Ok.is h

pub returns-in-Err : goal.returns-in-Err
unfolding as_point_written
returns-in-Err c o h = host_wrote_no_point c.in-Err.is c.number_of.ensures h
