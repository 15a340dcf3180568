-- What the step ensures is what the call does.
use Rattle.model.specs.PointAlong.{point_given}
use Rattle.point_writer.proofs.Answers.{called}
use Rattle.point_writer.proofs.write_point.Goals as goal

pub returns : goal.returns
returns c =
    let a = c.args in
    let e = c.in_work_area.ensures in
    called a.map.now (point_given a.line a.offset a.orientation a.side) a.bytes.now e.short (λ h. let r = e.ran h in rw (r.on_buffer, r.leaves) at r.ran) e.area_cleared
