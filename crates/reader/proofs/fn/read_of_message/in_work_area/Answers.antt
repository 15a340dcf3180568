-- Bytes that are no map.
use Rattle.model.proofs.Answering.{passed_on}
use Rattle.reader.proofs.OfMessages.{map_refused_lem}
use Rattle.reader.proofs.fn.read_of_message.in_work_area.Goals as goal

pub returns-in_err-opened : goal.returns-in_err-opened
returns-in_err-opened c =
    let passed = passed_on c.from_residual.result c.from_residual.ensures.1 in
    let a = c.captures in
    rw passed (map_refused_lem a.map.now a.message.now a.reference.now c.args.out.now _ c.in_err-opened.ensures.answers)
