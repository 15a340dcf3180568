-- By the answer.
use Rattle.answer_text.proofs.Putting.{put_both, put_same}
use Rattle.answer_text.proofs.Answers.{accepted_text, refused_text}
use Rattle.answer_text.proofs.put_answer.Goals as goal

pub returns-in-Ok : goal.returns-in-Ok
returns-in-Ok c =
    put_same
    (accepted_text c.args.lines.now c.in-Ok.is c.min-count.ensures)
    (put_both (put_both c.put_acceptance-head.ensures c.put_each-rows.ensures) c.put.ensures)

pub returns-in-Err : goal.returns-in-Err
returns-in-Err c = put_same (refused_text c.args.lines.now c.in-Err.is) (put_both c.put_refusal-row.ensures c.put-in-Err.ensures)
