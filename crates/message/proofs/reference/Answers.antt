-- The finished bytes are asked, as far as the buffer has them.
use Rattle.std.proofs.Common.{arith, ◌≡◌, sym, ◌∙◌, ap, ℕ, List, take}
use lib.Seq.{take_all}
use Rattle.model.specs.Message.{reference_number}
use Rattle.model.specs.MessageCall.{finished_bytes, finished_number}
use Rattle.message.proofs.reference.Goals as goal

pub returns-then-buffer-finished : goal.returns-then-buffer-finished
unfolding finished_number
returns-then-buffer-finished c =
    let a = c.args in
    let e : c.finished_bytes-finished.result ≡ finished_bytes a.m = c.finished_bytes-finished.ensures in
    c.received.ensures ∙ ap (λ (l : List ℕ). reference_number a.n l) (sym (take_all (finished_bytes a.m) a.buffer.now (omega arith)))

pub returns : goal.returns
unfolding finished_number
returns c =
    let a = c.args in
    c.received-2.ensures ∙ ap (λ (k : ℕ). reference_number a.n (take k a.buffer.now)) c.finished_bytes-finished.ensures
