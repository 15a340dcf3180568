-- The sum is that over the bytes that are there.
use Rattle.std.proofs.Common.{◌∙◌, ap, ℕ}
use Rattle.cases.specs.Sum.{sum_from}
use Rattle.answer_text.proofs.Putting.{put_same}
use Rattle.marks.specs.Shown.{sum_text}
use Rattle.marks.proofs.put_sum.Goals as goal

pub returns : goal.returns
unfolding sum_text
returns c =
    let sum = c.sum_of_bytes.ensures.0 ∙ ap (λ (n : ℕ). sum_from c.args.bytes.now 0 n 0) c.min-handed_back.ensures in
    put_same (rw (sum_text, ← sum)) c.put_number.ensures
