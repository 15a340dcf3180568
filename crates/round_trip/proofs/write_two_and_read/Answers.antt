-- Demand 3 of two stretches, from the theorem over the definitions and the contracts of the calls.
use Rattle.std.proofs.Common.{◌≡◌, sym, take, Ok, arith, rules}
use Rattle.std.proofs.Math.Seq.{length-take-le}
use Rattle.round_trip.proofs.Wrote.{same_size}
use Rattle.round_trip.proofs.Handed.{wrote, writes_count, bytes_fit, handed_back, alike, handed_too}
use Rattle.round_trip.proofs.write_two_and_read.Goals as goal

pub slice_bounds-same-end : goal.slice_bounds-same-end
slice_bounds-same-end c =
    let one : c.write_given.result ≡ Ok c.in_ok-one.one = grind arith in
    bytes_fit (wrote (rw one at c.write_given.ensures)) c.write_given.auto.bytes

pub slice_bounds-same-end-2 : goal.slice_bounds-same-end-2
slice_bounds-same-end-2 c =
    let one : c.write_given.result ≡ Ok c.in_ok-one.one = grind arith in
    sym (length-take-le _ _ (bytes_fit (wrote (rw one at c.write_given.ensures)) c.write_given.auto.bytes))

pub slice_bounds-theirs-end : goal.slice_bounds-theirs-end
slice_bounds-theirs-end c =
    let other : c.write_given-2.result ≡ Ok c.in_ok-other.other = grind arith in
    bytes_fit (wrote (rw other at c.write_given-2.ensures)) c.write_given-2.auto.bytes

pub slice_bounds-theirs-end-2 : goal.slice_bounds-theirs-end-2
slice_bounds-theirs-end-2 c =
    let other : c.write_given-2.result ≡ Ok c.in_ok-other.other = grind arith in
    sym (length-take-le _ _ (bytes_fit (wrote (rw other at c.write_given-2.ensures)) c.write_given-2.auto.bytes))

pub returns : goal.returns
returns c =
    let is_one : c.write_given.result ≡ Ok c.in_ok-one.one = grind arith in
    let is_other : c.write_given-2.result ≡ Ok c.in_ok-other.other = grind arith in
    let same : take c.in_ok-one.one.bytes c.write_given.new.bytes ≡ take c.in_ok-other.other.bytes c.write_given-2.new.bytes = search rules in
    let one = rw is_one at c.write_given.ensures in
    let other = rw is_other at c.write_given-2.ensures in
    let size = same_size _ _ _ _ (bytes_fit (wrote one) c.write_given.auto.bytes) (bytes_fit (wrote other) c.write_given-2.auto.bytes) same in (
      record { between = _; first = (_, _, one); second = rw size at (writes_count other) },
      rw size at same,
      alike (wrote one) (wrote other) same,
      handed_back (wrote one) c.read-answer.ensures,
      handed_too _ (wrote other) same c.read-answer.ensures,
    )
