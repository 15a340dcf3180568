-- By what the two tests say.
use Rattle.marks.specs.Shown.{WorkText}
use Rattle.marks.proofs.put_work.Goals as goal

pub returns-then-is_kept : goal.returns-then-is_kept
returns-then-is_kept c =
    let kept = rw c.if-is_kept.true at c.is_kept.ensures in
    record { text = _; is_one = WorkText.kept kept; put = c.put.ensures }

pub returns-then-is_cleared : goal.returns-then-is_cleared
returns-then-is_cleared c =
    let not-kept = rw c.if-is_kept.false at c.is_kept.ensures in
    let cleared = rw c.if-is_cleared.true at c.is_cleared.ensures in
    record { text = _; is_one = WorkText.cleared not-kept cleared; put = c.put-then-is_cleared.ensures }

pub returns : goal.returns
returns c =
    let not-kept = rw c.if-is_kept.false at c.is_kept.ensures in
    let not-cleared = rw c.if-is_cleared.false at c.is_cleared.ensures in
    record { text = _; is_one = WorkText.changed not-kept not-cleared; put = c.put-2.ensures }
