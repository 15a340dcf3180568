-- One number more, and all of them.
use Rattle.std.proofs.Common.{arith, ◌≡◌, ◌∙◌, ap, ℕ, List, take}
use lib.ListN.{set}
use lib.Seq.{paste}
use Rattle.model.specs.Host.{words}
use Rattle.buffers.proofs.LineBytes.{taken_more, taken_all}
use Rattle.buffers.proofs.words.take_words.Goals as goal

pub loop-i-preserved : goal.loop-i-preserved
loop-i-preserved c =
    let i = c.loop-i.i in
    ap (λ (d : List ℕ). set d i c.word_at.result) c.loop-i.invariant
    ∙ taken_more c.args.bytes.now c.args.numbers.now i c.word_at.result (omega (arith, c.min-n.ensures)) (omega (arith, c.min-n.ensures)) c.word_at.ensures

pub returns : goal.returns
returns c =
    let bs = c.args.bytes.now in
    let d = c.args.numbers.now in
    let n = c.min-n.result in
    let all : c.loop-i.i ≡ n = omega arith in (
      omega (arith, c.min-n.ensures),
      ap (take n) (c.loop-i.invariant ∙ ap (paste d 0 (words bs)) all) ∙ taken_all bs d n c.min-n.ensures,
    )
