-- By the answer.
use Rattle.answer_text.proofs.Putting.{put_both, put_same}
use Rattle.marks.specs.Shown.{written_text}
use Rattle.marks.proofs.put_written.Goals as goal

pub returns-in-Ok : goal.returns-in-Ok
unfolding written_text
returns-in-Ok c =
    let numbers = put_both (put_both c.put_number-counted.ensures c.put_number-tested.ensures) c.put_number-end.ensures in
    put_same (rw (c.in-Ok.is, written_text)) (put_both numbers c.put_sum.ensures)

pub returns-in-Err : goal.returns-in-Err
unfolding written_text
returns-in-Err c = put_same (rw (c.in-Err.is, written_text, ← c.number_of.ensures)) c.put_number.ensures
