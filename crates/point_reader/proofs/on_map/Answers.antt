-- Bytes without the form of a point along line.
use Rattle.model.proofs.Answering.{passed_on}
use Rattle.point_reader.proofs.Answers.{form_refused}
use Rattle.point_reader.proofs.on_map.Goals as goal

pub returns-in_err-form_of : goal.returns-in_err-form_of
returns-in_err-form_of c m set count =
    let passed = passed_on c.from_residual.result c.from_residual.ensures.1 in
    rw passed (form_refused m _ _ _ c.in_err-form_of.ensures)
