-- Bytes without the form of a reference.
use Rattle.model.proofs.Answering.{passed_on}
use Rattle.reader.proofs.Answers.{form_refused}
use Rattle.reader.proofs.on_map.Goals as goal

pub returns-in_err-sound : goal.returns-in_err-sound
returns-in_err-sound c m set count =
    let passed = passed_on c.from_residual.result c.from_residual.ensures.1 in
    rw passed (form_refused m _ _ _ c.in_err-sound.ensures)
