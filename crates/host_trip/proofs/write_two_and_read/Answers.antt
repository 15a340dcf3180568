-- Demand 3 of two stretches for a C host.
use Rattle.std.proofs.Common.{◌≡◌, sym, take, Ok, refl, arith, rules}
use Rattle.std.proofs.Math.Seq.{length-take-le}
use Rattle.round_trip.proofs.Wrote.{same_size}
use Rattle.host_trip.proofs.Handed.{bytes_fit, handed_back, so_wrote, alike}
use Rattle.host_trip.proofs.write_two_and_read.Goals as goal

pub slice_bounds-same-end : goal.slice_bounds-same-end
slice_bounds-same-end c =
    let one : c.write_given.result ≡ Ok c.in_ok-one.one = grind arith in
    bytes_fit (so_wrote (rw one at c.write_given.ensures).1) c.write_given.auto.bytes

pub slice_bounds-same-end-2 : goal.slice_bounds-same-end-2
slice_bounds-same-end-2 c =
    let one : c.write_given.result ≡ Ok c.in_ok-one.one = grind arith in
    sym (length-take-le _ _ (bytes_fit (so_wrote (rw one at c.write_given.ensures).1) c.write_given.auto.bytes))

pub slice_bounds-ne-end : goal.slice_bounds-ne-end
slice_bounds-ne-end c =
    let other : c.write_given-2.result ≡ Ok c.in_ok-other.other = grind arith in
    bytes_fit (so_wrote (rw other at c.write_given-2.ensures).1) c.write_given-2.auto.bytes

pub slice_bounds-ne-end-2 : goal.slice_bounds-ne-end-2
slice_bounds-ne-end-2 c =
    let other : c.write_given-2.result ≡ Ok c.in_ok-other.other = grind arith in
    sym (length-take-le _ _ (bytes_fit (so_wrote (rw other at c.write_given-2.ensures).1) c.write_given-2.auto.bytes))

pub returns : goal.returns
returns c =
    let is_one : c.write_given.result ≡ Ok c.in_ok-one.one = grind arith in
    let is_other : c.write_given-2.result ≡ Ok c.in_ok-other.other = grind arith in
    let same : take c.in_ok-one.one.bytes c.write_given.new.bytes ≡ take c.in_ok-other.other.bytes c.write_given-2.new.bytes = search rules in
    let first = so_wrote (rw is_one at c.write_given.ensures).1 in
    let second = so_wrote (rw is_other at c.write_given-2.ensures).1 in
    let size = same_size _ _ _ _ (bytes_fit first c.write_given.auto.bytes) (bytes_fit second c.write_given-2.auto.bytes) same in (
      first,
      rw size at second,
      rw size at same,
      alike first second same,
      handed_back first _ refl c.openlr_read-answer.ensures,
      handed_back second _ same c.openlr_read-answer.ensures,
    )
