-- The lines of the same legs read again.
use Rattle.std.proofs.Common.{arith}
use Rattle.reader.proofs.Answers.{again}
use Rattle.reader.proofs.put_lines.Goals as goal

pub returns : goal.returns
returns c m set places lists read count kept =
    let r = c.read_legs in
    again read _ _ r.result (r.ensures m set places).tells (omega (arith, count))
