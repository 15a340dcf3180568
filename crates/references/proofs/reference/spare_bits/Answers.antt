-- The points one after another, and then the last P and R.
use Rattle.std.proofs.Common.{sym, ◌∙◌, arith}
use borrow.Author.Tests.{le-leb, lt-leb}
use Rattle.references.proofs.Form.{spare_next, spare_last}
use Rattle.references.proofs.reference.spare_bits.Goals as goal

pub returns-then-byte_at-ge64 : goal.returns-then-byte_at-ge64
returns-then-byte_at-ge64 c =
    sym
    (c.loop-k.invariant
    ∙ spare_next _ _ _ c.loop-k-test.true
    ∙ rw (← c.byte_at.ensures.0, le-leb _ _ c.if-byte_at-ge64.true))

pub loop-k-preserved : goal.loop-k-preserved
loop-k-preserved c =
    c.loop-k.invariant
    ∙ spare_next _ _ _ c.loop-k-test.true
    ∙ rw (← c.byte_at.ensures.0, lt-leb _ _ c.if-byte_at-ge64.false)

pub returns-then-byte_at-ge64-2 : goal.returns-then-byte_at-ge64-2
returns-then-byte_at-ge64-2 c =
    sym
    (c.loop-k.invariant
    ∙ spare_last _ _ _ (omega arith)
    ∙ rw (← c.byte_at-2.ensures.0, le-leb _ _ c.if-byte_at-ge64-2.true))

pub returns-else-byte_at-ge64-2 : goal.returns-else-byte_at-ge64-2
returns-else-byte_at-ge64-2 c =
    sym
    (c.loop-k.invariant
    ∙ spare_last _ _ _ (omega arith)
    ∙ rw (← c.byte_at-2.ensures.0, ← c.byte_r.ensures.0, lt-leb _ _ c.if-byte_at-ge64-2.false))
