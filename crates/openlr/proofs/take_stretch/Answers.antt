-- No line, or those of all bytes.
use Rattle.std.proofs.Common.{◌∙◌, sym, ap, length, take, rules, arith}
use Rattle.std.proofs.Math.Seq.{take-nil}
use Rattle.openlr.proofs.StretchLines.{no_stretch, whole_stretch}
use Rattle.openlr.proofs.take_stretch.Goals as goal

pub returns-then-bytes-ne0 : goal.returns-then-bytes-ne0
returns-then-bytes-ne0 c =
    let a = c.args in
    (omega arith, sym (ap (take (length a.numbers.now)) (no_stretch a.bytes.now c.if-bytes-ne0.true) ∙ take-nil (length a.numbers.now)))

pub returns : goal.returns
returns c =
    let a = c.args in
    let t = c.take_words.ensures in
    (t.0, t.1 ∙ ap (take (length a.numbers.now)) (sym (whole_stretch a.bytes.now (search rules))))
