-- The reader's answer and the line buffer tell the outcome, and its text fits.
use Rattle.std.proofs.Common.{◌≡◌, length, arith}
use Rattle.model.specs.Text.{printed_lines}
use Rattle.model.specs.Work.{work_length}
use Rattle.openlr_show.proofs.Printed.{zeros, made}
use Rattle.openlr_show.proofs.make_text.Goals as goal

pub returns : goal.returns
returns c =
    let told = c.read-answer in
    let room : length told.new.lines ≡ printed_lines = omega (arith, told.auto.lines) in
    made (zeros work_length) (zeros 1_024) room told.ensures c.requires c.put_answer.ensures
