-- A point that is refused as it is given, or the answer for its line.
use Rattle.std.proofs.lemmas.Result.{err_from_is_err_and}
use Rattle.model.proofs.Answering.{answered_by}
use Rattle.point_writer.proofs.Answers.{point_refused}
use Rattle.point_writer.proofs.on_map.Goals as goal

pub returns-in_err-check : goal.returns-in_err-check
returns-in_err-check c m set =
    let p = err_from_is_err_and c.from_residual.result c.from_residual.ensures.1 in
    rw (p.1, p.2) (point_refused m _ _ _ (c.in_err-check.ensures m set.held))

pub returns : goal.returns
returns c m set =
    let e = c.in_ok-check.ensures m set.held in
    answered_by (λ o r. rw e r) (c.on_line.ensures m set e)
