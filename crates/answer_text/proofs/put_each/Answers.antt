-- One number more.
use Rattle.model.specs.Text.{each}
use Rattle.answer_text.proofs.Putting.{put_both, put_nothing}
use Rattle.answer_text.proofs.Digits.{each_more}
use Rattle.answer_text.proofs.put_each.Goals as goal

pub loop-number-init : goal.loop-number-init
unfolding each
loop-number-init c = put_nothing c.args.at c.args.buffer.now c.min-end.result c.min-end.ensures

pub loop-number-preserved : goal.loop-number-preserved
loop-number-preserved c =
    let l = c.loop-number in
    let put = put_both l.invariant (rw c.from.ensures at c.put_number-end.ensures) in
    rw (each_more c.args.word.now c.args.numbers.now l.number-index c.loop-number-test.true) put
