-- What the step ensures is what the call does.
use Rattle.model.specs.Stretch.{stretch_of}
use Rattle.writer.proofs.Answers.{called}
use Rattle.writer.proofs.write.Goals as goal

pub returns : goal.returns
returns c =
    let a = c.args in
    let e = c.in_work_area.ensures in
    called a.map.now (stretch_of a.stretch.now a.pos a.neg) a.tests a.bytes.now e.short (λ h. let r = e.ran h in rw (r.on_buffer, r.leaves) at r.ran) e.area_cleared
