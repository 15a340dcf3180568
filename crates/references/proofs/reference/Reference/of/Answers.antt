-- The refusals in the order of the table, and then a sound reference.
use Rattle.std.proofs.Common.{sym, ap, ◌∙◌, arith}
use borrow.Author.Tests.{eq-eqb, ne_eqb}
use Rattle.model.specs.Refusal.{refusal_of}
use Rattle.model.specs.Reference.{flags}
use Rattle.references.proofs.Form.{other_length, too_much_over, after_length, after_status}
use Rattle.references.proofs.reference.Reference.of.Goals as goal

pub returns-then-n-lt-SHORTEST : goal.returns-then-n-lt-SHORTEST
unfolding refusal_of
returns-then-n-lt-SHORTEST c = other_length _ c.then-n-lt-SHORTEST.either

pub returns-then-left-gt2 : goal.returns-then-left-gt2
unfolding refusal_of
returns-then-left-gt2 c = too_much_over _ (omega arith) (omega arith) (omega arith)

pub returns-then-bytes-ne-STATUS : goal.returns-then-bytes-ne-STATUS
unfolding refusal_of
returns-then-bytes-ne-STATUS c = after_length _ (omega arith) (omega arith) (omega arith) ∙ rw (ne_eqb _ _ c.if-bytes-ne-STATUS.true)

pub returns-then-spare_bits : goal.returns-then-spare_bits
unfolding refusal_of
returns-then-spare_bits c =
    after_status _ (omega arith) (omega arith) (omega arith) c.if-bytes-ne-STATUS.false
    ∙ rw (sym c.spare_bits.ensures ∙ c.if-spare_bits.true)

pub returns-then-flag_count-left : goal.returns-then-flag_count-left
unfolding refusal_of
returns-then-flag_count-left c =
    after_status _ (omega arith) (omega arith) (omega arith) c.if-bytes-ne-STATUS.false
    ∙ rw
    (sym c.spare_bits.ensures ∙ c.if-spare_bits.false, ne_eqb _ _ (λ e. c.if-flag_count-left.true (c.flag_count.ensures ∙ ap flags c.byte_r.ensures.0 ∙ sym e)))

pub invariant_of-result : goal.invariant_of-result
invariant_of-result c =
    let same = sym c.if-flag_count-left.false ∙ c.flag_count.ensures ∙ ap flags c.byte_r.ensures.0 in
    record {
      sound = record {
        parses = after_status _ (omega arith) (omega arith) (omega arith) c.if-bytes-ne-STATUS.false
            ∙ rw (sym c.spare_bits.ensures ∙ c.if-spare_bits.false, eq-eqb _ _ same);
        some = omega arith;
        few = omega arith;
        sized = omega arith;
      };
    }
