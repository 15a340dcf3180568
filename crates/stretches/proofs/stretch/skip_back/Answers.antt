-- A line ends the skipping, or it is dropped.
use Rattle.std.proofs.Common.{◌≡◌, ℕ, List, reverse, sym, ap, ◌∙◌, ◌+◌, ◌-◌, arith}
use lib.Seq.{take-length}
use Rattle.model.specs.Stretch.{skip}
use Rattle.stretches.proofs.Stretches.{back_stop, back_on, back_none}
use Rattle.stretches.proofs.stretch.skip_back.Goals as goal

pub loop-last-init : goal.loop-last-init
loop-last-init c m h = let a = c.args in ap (λ (ls : List ℕ). skip m a.offset (reverse ls)) (sym (take-length a.stretch.numbers.now))

pub returns-then-left-length : goal.returns-then-left-length
returns-then-left-length c =
    let e : c.loop-last.last - 1 + 1 ≡ c.loop-last.last = omega arith in (
      omega arith,
      λ m h. rw e
          (c.loop-last.invariant m h
          ∙ back_stop m _ _ _ c.loop-last-test.true c.loop-last.auto.last (rw (c.field_of-length.ensures m h) at c.if-left-length.true)),
    )

pub loop-last-preserved : goal.loop-last-preserved
loop-last-preserved c m h =
    c.loop-last.invariant m h ∙ rw (← c.field_of-length.ensures m h) at
    (back_on m c.args.stretch.numbers.now c.loop-last.left c.loop-last.last c.loop-last-test.true c.loop-last.auto.last
    (rw (c.field_of-length.ensures m h) at c.if-left-length.false))

pub returns : goal.returns
returns c =
    let e : c.loop-last.last ≡ 0 = omega arith in
    (omega arith, λ m h. rw e at (c.loop-last.invariant m h ∙ back_none m c.args.stretch.numbers.now _ c.loop-last.last e))
