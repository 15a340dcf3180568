-- A banned turn where two legs meet, the two spans, then their sum, then the room.
use Rattle.std.proofs.Common.{arith}
use Rattle.model.proofs.Answering.{passed_on}
use Rattle.reader.proofs.Ends.{banned_meeting_lem, no_positive, no_negative, too_far, no_room, accepted}
use Rattle.reader.proofs.ending.answer.Goals as goal

pub returns-then-sums : goal.returns-then-sums
returns-then-sums c m lists of = banned_meeting_lem of c.if-sums.true

pub returns-in_err-positive : goal.returns-in_err-positive
returns-in_err-positive c m lists of =
    let passed = passed_on c.from_residual.result c.from_residual.ensures.1 in
    let none = rw c.positive_offset.ensures at c.in_err-positive.ensures in
    rw (passed, none.1) (no_positive of c.if-sums.false none.0)

pub returns-in_err-negative : goal.returns-in_err-negative
returns-in_err-negative c m lists of =
    let passed = passed_on c.from_residual-in_err-negative.result c.from_residual-in_err-negative.ensures.1 in
    let none = rw c.negative_offset.ensures at c.in_err-negative.ensures in
    rw (passed, none.1) (no_negative of c.if-sums.false none.0)

pub returns-then-sums-positive : goal.returns-then-sums-positive
returns-then-sums-positive c m lists of =
    too_far of c.if-sums.false (rw c.positive_offset.ensures at c.in_ok-positive.ensures) (rw c.negative_offset.ensures at c.in_ok-negative.ensures)
    c.if-sums-positive.true

pub returns-then-room-sums : goal.returns-then-room-sums
returns-then-room-sums c m lists of =
    no_room of c.if-sums.false (rw c.positive_offset.ensures at c.in_ok-positive.ensures) (rw c.negative_offset.ensures at c.in_ok-negative.ensures)
    (omega (arith, c.if-sums-positive.false)) c.if-room-sums.true

pub returns : goal.returns
returns c m lists of =
    accepted of c.if-sums.false (rw c.positive_offset.ensures at c.in_ok-positive.ensures) (rw c.negative_offset.ensures at c.in_ok-negative.ensures)
    (omega (arith, c.if-sums-positive.false)) c.if-room-sums.false
