-- By the answer.
use Rattle.answer_text.proofs.Putting.{put_both, put_same}
use Rattle.marks.specs.Shown.{point_written_text}
use Rattle.marks.proofs.put_point_written.Goals as goal

pub returns-in-Ok : goal.returns-in-Ok
unfolding point_written_text
returns-in-Ok c = put_same (rw (c.in-Ok.is, point_written_text)) (put_both c.put_number-end.ensures c.put_sum.ensures)

pub returns-in-Err : goal.returns-in-Err
unfolding point_written_text
returns-in-Err c = put_same (rw (c.in-Err.is, point_written_text, ← c.number_of.ensures)) c.put_number.ensures
