-- `span_of` meets its contract: no byte is past 255, and what lies between the starts of two bytes.
use native.Mathlib.Omega.{arith}
use Rattle.model.proofs.OffsetSpans.{past_255_nowhere}
use Rattle.fields.proofs.Offsets.{span, nowhere}
use Rattle.fields.proofs.offset.span_of.Goals as goal

pub returns-then-byte-gt-GREATEST_OFFSET_BYTE : goal.returns-then-byte-gt-GREATEST_OFFSET_BYTE
returns-then-byte-gt-GREATEST_OFFSET_BYTE c = past_255_nowhere _ _ c.if-byte-gt-GREATEST_OFFSET_BYTE.true

pub returns-then-next-first : goal.returns-then-next-first
returns-then-next-first c =
    nowhere _ _ _ _ c.first_offset-first.ensures.0 c.first_offset-next.ensures.0 (c.first_offset-next.ensures.1 (omega arith)) c.if-next-first.true

pub returns : goal.returns
returns c =
    span _ _ _ _ c.first_offset-first.ensures.0 c.first_offset-next.ensures.0 (c.first_offset-next.ensures.1 (omega arith)) c.if-next-first.false
