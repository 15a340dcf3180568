-- Demand 3 for a C host, from the theorem over the definitions and the contracts of the two functions.
use Rattle.std.proofs.Common.{refl, sym}
use Rattle.std.proofs.Math.Seq.{length-take-le}
use Rattle.host_trip.proofs.Handed.{bytes_fit, handed_back}
use Rattle.host_trip.proofs.write_and_read.Goals as goal

pub slice_bounds-openlr_read-end : goal.slice_bounds-openlr_read-end
slice_bounds-openlr_read-end c = bytes_fit (_, _, c.in_ok-written.ensures.1) c.write_given.auto.bytes

pub slice_bounds-openlr_read-end-2 : goal.slice_bounds-openlr_read-end-2
slice_bounds-openlr_read-end-2 c = sym (length-take-le _ _ (bytes_fit (_, _, c.in_ok-written.ensures.1) c.write_given.auto.bytes))

pub returns : goal.returns
returns c =
    let (zero, so) = c.in_ok-written.ensures in
    (zero, so, handed_back (_, _, so) _ refl c.openlr_read-answer.ensures)
