-- One number more, and all of them.
use Rattle.std.proofs.Common.{arith, refl, ◌∙◌, ap, ℕ, ◌+◌, ◌*◌, List, [], ◌∷◌, ◌++◌, take, drop, get_or}
use Rattle.model.specs.Host.{word_bytes}
use Rattle.buffers.proofs.LineBytes.{put_more, put_all}
use Rattle.buffers.proofs.words.put_words.Goals as goal

pub loop-i-init : goal.loop-i-init
unfolding word_bytes
loop-i-init c = refl

pub loop-i-preserved : goal.loop-i-preserved
loop-i-preserved c =
    let i = c.loop-i.i in
    let ls = c.args.numbers.now in
    c.put_word.ensures ∙ ap (λ (o : List ℕ). take (i * 4) o ++ (word_bytes (get_or ls i 0 ∷ []) ++ drop (i * 4 + 4) o)) c.loop-i.invariant
    ∙ put_more ls c.args.bytes.now i c.loop-i-test.true

pub returns : goal.returns
returns c = c.loop-i.invariant ∙ put_all c.args.numbers.now c.args.bytes.now c.loop-i.i (omega arith)
