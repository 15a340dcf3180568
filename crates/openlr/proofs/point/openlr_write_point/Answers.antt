-- What the writer of points answers, told to the host.
use Rattle.model.specs.PointAlong.{point_given}
use Rattle.openlr.proofs.PointWriting.{point_count_small, host_point_call}
use Rattle.openlr.proofs.point.openlr_write_point.Goals as goal

pub told-requires : goal.told-requires
told-requires c = point_count_small _ _ c.write_point_from.ensures

pub returns : goal.returns
returns c =
    let a = c.args in
    let d = c.write_point_from.ensures in
    host_point_call a.map.now (point_given a.line a.offset a.orientation a.side) d (c.told.ensures d.outcome d.answers)
