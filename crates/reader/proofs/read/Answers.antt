-- What the step ensures is what the call does.
use Rattle.reader.proofs.Answers.{called}
use Rattle.reader.proofs.read.Goals as goal

pub returns : goal.returns
returns c =
    let a = c.args in
    let e = c.in_work_area.ensures in
    called a.map.now a.reference.now a.lines.now e.short (λ h. let r = e.ran h in rw (r.on_buffer, r.leaves) at r.ran) e.area_cleared
