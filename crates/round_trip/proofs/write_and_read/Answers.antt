-- Demand 3, from the theorem over the definitions and the contracts of the two calls.
use Rattle.std.proofs.Common.{sym}
use Rattle.std.proofs.Math.Seq.{length-take-le}
use Rattle.round_trip.proofs.Handed.{wrote, bytes_fit, handed_back}
use Rattle.round_trip.proofs.write_and_read.Goals as goal

pub slice_bounds-read-end : goal.slice_bounds-read-end
slice_bounds-read-end c = bytes_fit (wrote c.in_ok-written.ensures) c.write_given.auto.bytes

pub slice_bounds-read-end-2 : goal.slice_bounds-read-end-2
slice_bounds-read-end-2 c = sym (length-take-le _ _ (bytes_fit (wrote c.in_ok-written.ensures) c.write_given.auto.bytes))

pub returns : goal.returns
returns c = (c.in_ok-written.ensures, handed_back (wrote c.in_ok-written.ensures) c.read-answer.ensures)
