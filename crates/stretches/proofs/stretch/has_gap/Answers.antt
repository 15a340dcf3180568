-- Each pair of neighbours is a gap, or it leaves the question to the lines behind it.
use Rattle.std.proofs.Common.{refl, sym, ◌∙◌, arith}
use Rattle.model.specs.Stretch.{apart}
use Rattle.stretches.proofs.Stretches.{gap_here, gap_on, pair_none}
use Rattle.stretches.proofs.stretch.has_gap.Goals as goal

pub loop-i-init : goal.loop-i-init
loop-i-init c m h = refl

pub returns-then-end-start : goal.returns-then-end-start
returns-then-end-start c m h =
    sym (c.loop-i.invariant m h
    ∙ gap_here m _ _ (omega arith) c.loop-i-test.true (λ e. c.if-end-start.true (c.field_of-end.ensures m h ∙ e ∙ sym (c.field_of-start.ensures m h))))

pub loop-i-preserved : goal.loop-i-preserved
loop-i-preserved c m h =
    c.loop-i.invariant m h
    ∙ gap_on m _ _ (omega arith) c.loop-i-test.true (sym (c.field_of-end.ensures m h) ∙ c.if-end-start.false ∙ c.field_of-start.ensures m h)

pub returns : goal.returns
returns c m h = sym (c.loop-i.invariant m h ∙ pair_none (apart m) _ c.loop-i.i (omega arith))
