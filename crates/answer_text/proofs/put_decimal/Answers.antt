-- The digits, from the first on.
use Rattle.std.proofs.Common.{arith, ◌≤◌, ◌-◌, ◌∙◌, length, drop}
use lib.ListN.{length-drop}
use lib.Seq.{take_all}
use Rattle.answer_text.proofs.Putting.{put_same}
use Rattle.answer_text.proofs.put_decimal.Goals as goal

pub returns : goal.returns
returns c =
    let d = c.put_digits-start in
    let made = d.new.digits in
    let whole : length (drop d.result made) ≤ 20 - d.result = omega (arith, d.auto.digits, length-drop d.result made) in
    put_same (take_all (20 - d.result) (drop d.result made) whole ∙ d.ensures.1) c.put.ensures
