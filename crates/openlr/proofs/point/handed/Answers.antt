-- The lines that were read go into the host's buffer, or the refusal is told.
use Rattle.openlr.specs.Host.{as_point}
use Rattle.openlr.proofs.PointCalls.{handed_read, handed_refused}
use Rattle.openlr.proofs.point.handed.Goals as goal

pub returns-in-Ok : goal.returns-in-Ok
unfolding as_point
returns-in-Ok c o before t stand = handed_read before c.args.lines.now t c.in-Ok.is stand c.put_words.ensures

pub returns-in-Err : goal.returns-in-Err
returns-in-Err c o before t stand = handed_refused t c.in-Err.is c.no_point.ensures
