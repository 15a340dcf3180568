-- The length is that of a reference, and so many bytes are there; or it stops the list.
use Rattle.std.proofs.Common.{arith, ◌≡◌, ◌∙◌, ◌+◌, ◌-◌, drop, ⊎_elim}
use lib.ListN.{length-drop}
use lib.Seq.{drop-drop}
use Rattle.message_laws.proofs.Nexts.{no_byte, too_long, early_end, a_reference}
use Rattle.message_list.proofs.entry_of.Goals as goal

pub returns-then-count-lt-LEAST_LENGTH : goal.returns-then-count-lt-LEAST_LENGTH
returns-then-count-lt-LEAST_LENGTH c = ⊎_elim (λ w. no_byte _ _ (omega (arith, w))) (λ w. too_long _ _ w.1) c.then-count-lt-LEAST_LENGTH.either

pub returns-then-message-start : goal.returns-then-message-start
returns-then-message-start c = early_end _ (drop c.args.start c.args.message.now) (omega (arith, length-drop c.args.start c.args.message.now))

pub returns : goal.returns
returns c =
    let a = c.args in
    let message = a.message.now in
    let e : a.start + a.count - a.start ≡ a.count = omega arith in
    record {
      ordered = omega arith;
      inside = omega arith;
      is =
          a_reference a.count (drop a.start message) (omega arith) (omega arith) (omega (arith, length-drop a.start message))
          ∙ rw (e, drop-drop a.count a.start message);
    }
