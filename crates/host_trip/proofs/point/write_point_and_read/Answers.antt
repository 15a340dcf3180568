-- The claim of W5 for a C host, from the theorem over the definitions and the contracts of the two functions.
use Rattle.std.proofs.Common.{refl, sym}
use Rattle.std.proofs.Math.Seq.{length-take-le}
use Rattle.host_trip.proofs.HandedPoint.{point_fits, handed_point}
use Rattle.host_trip.proofs.point.write_point_and_read.Goals as goal

pub slice_bounds-openlr_read_point-end : goal.slice_bounds-openlr_read_point-end
slice_bounds-openlr_read_point-end c = point_fits c.in_ok-written.ensures c.write_given.auto.bytes

pub slice_bounds-openlr_read_point-end-2 : goal.slice_bounds-openlr_read_point-end-2
slice_bounds-openlr_read_point-end-2 c = sym (length-take-le _ _ (point_fits c.in_ok-written.ensures c.write_given.auto.bytes))

pub returns : goal.returns
returns c = (c.in_ok-written.ensures, handed_point c.in_ok-written.ensures _ refl c.openlr_read_point-answer.ensures)
