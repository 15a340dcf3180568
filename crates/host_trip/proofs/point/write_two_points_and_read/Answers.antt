-- The claim of two points for a C host.
use Rattle.std.proofs.Common.{◌≡◌, sym, take, Ok, refl, arith, rules}
use Rattle.std.proofs.Math.Seq.{length-take-le}
use Rattle.round_trip.proofs.Wrote.{same_size}
use Rattle.host_trip.proofs.HandedPoint.{point_fits, handed_point, points_alike}
use Rattle.host_trip.proofs.point.write_two_points_and_read.Goals as goal

pub slice_bounds-same-end : goal.slice_bounds-same-end
slice_bounds-same-end c =
    let one : c.write_given.result ≡ Ok c.in_ok-one.one = grind arith in
    point_fits (rw one at c.write_given.ensures) c.write_given.auto.bytes

pub slice_bounds-same-end-2 : goal.slice_bounds-same-end-2
slice_bounds-same-end-2 c =
    let one : c.write_given.result ≡ Ok c.in_ok-one.one = grind arith in
    sym (length-take-le _ _ (point_fits (rw one at c.write_given.ensures) c.write_given.auto.bytes))

pub slice_bounds-ne-end : goal.slice_bounds-ne-end
slice_bounds-ne-end c =
    let other : c.write_given-2.result ≡ Ok c.in_ok-other.other = grind arith in
    point_fits (rw other at c.write_given-2.ensures) c.write_given-2.auto.bytes

pub slice_bounds-ne-end-2 : goal.slice_bounds-ne-end-2
slice_bounds-ne-end-2 c =
    let other : c.write_given-2.result ≡ Ok c.in_ok-other.other = grind arith in
    sym (length-take-le _ _ (point_fits (rw other at c.write_given-2.ensures) c.write_given-2.auto.bytes))

pub returns : goal.returns
returns c =
    let is_one : c.write_given.result ≡ Ok c.in_ok-one.one = grind arith in
    let is_other : c.write_given-2.result ≡ Ok c.in_ok-other.other = grind arith in
    let same : take c.in_ok-one.one c.write_given.new.bytes ≡ take c.in_ok-other.other c.write_given-2.new.bytes = search rules in
    let first = rw is_one at c.write_given.ensures in
    let second = rw is_other at c.write_given-2.ensures in
    let size = same_size _ _ _ _ (point_fits first c.write_given.auto.bytes) (point_fits second c.write_given-2.auto.bytes) same in (
      first,
      rw size at second,
      rw size at same,
      points_alike first second same,
      handed_point first _ refl c.openlr_read_point-answer.ensures,
      handed_point second _ same c.openlr_read_point-answer.ensures,
    )
