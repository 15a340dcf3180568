-- A line ends the skipping, or it is dropped.
use Rattle.std.proofs.Common.{◌≡◌, refl, ◌∙◌, length, arith}
use Rattle.stretches.proofs.Stretches.{front_stop, front_on, front_none}
use Rattle.stretches.proofs.stretch.skip_front.Goals as goal

pub loop-at-init : goal.loop-at-init
loop-at-init c m h = refl

pub returns-then-left-length : goal.returns-then-left-length
returns-then-left-length c = (
  omega arith,
  λ m h. c.loop-at.invariant m h ∙ front_stop m _ _ _ c.loop-at-test.true (rw (c.field_of-length.ensures m h) at c.if-left-length.true),
)

pub loop-at-preserved : goal.loop-at-preserved
loop-at-preserved c m h =
    c.loop-at.invariant m h ∙ rw (← c.field_of-length.ensures m h) at
    (front_on m c.args.stretch.numbers.now c.loop-at.left c.loop-at.at c.loop-at-test.true (rw (c.field_of-length.ensures m h) at c.if-left-length.false))

pub returns : goal.returns
returns c =
    let ls = c.args.stretch.numbers.now in
    let e : c.loop-at.at ≡ length ls = omega arith in
    (omega arith, λ m h. rw (← e) (c.loop-at.invariant m h ∙ front_none m ls _ c.loop-at.at e))
