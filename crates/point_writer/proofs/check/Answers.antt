-- The line, its offset and the marks are asked one after another.
use Rattle.std.proofs.Common.{◌<◌, length, inl, inr, arith}
use Rattle.model.specs.Refusal.{refusal_of}
use Rattle.model.specs.Lines.{line_at}
use Rattle.model.specs.PointAlong.{point_given}
use Rattle.model.proofs.PointWriting.{no_such_line, offset_outside, orientation_over, side_over, point_passes}
use Rattle.point_writer.proofs.Answers.{length_held}
use Rattle.point_writer.proofs.check.Goals as goal

pub returns-then-lines-number : goal.returns-then-lines-number
unfolding refusal_of
returns-then-lines-number c m h = no_such_line m _ (omega (arith, c.if-lines-number.true, c.wide-number.ensures.0, h.line_count))

pub returns-then-field-offset : goal.returns-then-field-offset
unfolding refusal_of
returns-then-field-offset c m h =
    let size = length_held h _ _ _ (omega (arith, c.if-lines-number.false)) c.wide-number.ensures.0 c.field.ensures in
    offset_outside m _ (omega (arith, c.if-lines-number.false, c.wide-number.ensures.0, h.line_count)) (omega (arith, c.if-field-offset.true, size))

pub returns-then-marks-gt-GREATEST_MARK : goal.returns-then-marks-gt-GREATEST_MARK
unfolding refusal_of
returns-then-marks-gt-GREATEST_MARK c m h =
    let size = length_held h _ _ _ (omega (arith, c.if-lines-number.false)) c.wide-number.ensures.0 c.field.ensures in
    let at = point_given c.args.line c.args.offset c.args.marks.orientation c.args.marks.side in
    let known : at.line < length m.lines = omega (arith, c.if-lines-number.false, c.wide-number.ensures.0, h.line_count) in
    let inside : at.offset < (line_at m at.line).length = omega (arith, c.if-field-offset.false, size) in
    elim c.then-marks-gt-GREATEST_MARK.either [ inl over ↦ orientation_over m at known inside over | inr over ↦ side_over m at known inside over.0 over.1 ]

pub returns : goal.returns
returns c m h =
    let size = length_held h _ _ _ (omega (arith, c.if-lines-number.false)) c.wide-number.ensures.0 c.field.ensures in
    point_passes m _ (omega (arith, c.if-lines-number.false, c.wide-number.ensures.0, h.line_count)) (omega (arith, c.if-field-offset.false, size))
    c.if-marks-gt-GREATEST_MARK.false c.if-marks-gt-GREATEST_MARK-2.false
