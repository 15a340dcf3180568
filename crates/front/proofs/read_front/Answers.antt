-- Two numbers, one behind the other.
use Rattle.std.proofs.Common.{arith, sym, ◌∙◌, ap, drop}
use Rattle.model.specs.Front.{front}
use Rattle.buffers.proofs.Lent.{drop_lesser}
use Rattle.front.proofs.Fronts.{no_count, no_sum, both_read}
use Rattle.front.proofs.read_front.Goals as goal

pub returns-in_err-count : goal.returns-in_err-count
returns-in_err-count c = rw c.from_residual.ensures (no_count _ (sym c.in_err-count.ensures))

pub returns-in_err-sum : goal.returns-in_err-sum
returns-in_err-sum c = rw c.from_residual-in_err-sum.ensures (no_sum _ _ _ (sym c.in_ok-count.ensures) (sym c.in_err-sum.ensures))

pub returns : goal.returns
returns c =
    let message = c.args.message.now in
    let sum = c.in_ok-sum.sum in (
      both_read message _ _ _ _ (sym c.in_ok-count.ensures) (sym c.in_ok-sum.ensures)
          ∙ ap (front c.in_ok-count.count.value sum.value) (sym (ap (λ n. drop n message) c.min.ensures ∙ drop_lesser sum.next message)),
      omega (arith, c.min.ensures),
    )
