-- Each turn marks the line that one banned turn leads into.
use Rattle.std.proofs.Common.{refl}
use Rattle.expansion.proofs.Marking.{marking_start, fits, marking_step, marking_less}
use Rattle.expansion.proofs.mark_bans.Goals as goal

pub loop-x-init : goal.loop-x-init
loop-x-init c = λ m h e. marking_start h e

pub bounds-work-at : goal.bounds-work-at
bounds-work-at c =
    let p = c.requires.1 in
    fits p.1 c.requires.0 (c.loop-x.invariant p.0 p.1 p.2) c.loop-x-test.true _ 0 c.wide-at.ensures.0

pub bounds-work-at-in-loop-x : goal.bounds-work-at-in-loop-x
bounds-work-at-in-loop-x c =
    let p = c.requires.1 in
    fits p.1 c.requires.0 (c.loop-x.invariant p.0 p.1 p.2) c.loop-x-test.true _ 0 c.wide-at.ensures.0

pub loop-x-smaller : goal.loop-x-smaller
loop-x-smaller c =
    let p = c.requires.1 in
    marking_less p.1 c.requires.0 (c.loop-x.invariant p.0 p.1 p.2) c.loop-x-test.true _ _ c.wide-at.ensures.0 c.wide-x.ensures.0

pub loop-x-preserved : goal.loop-x-preserved
loop-x-preserved c =
    λ m h e.
    marking_step h c.requires.0 (c.loop-x.invariant m h e) c.loop-x-test.true _ _ c.wide-at.ensures.0 refl c.wide-x.ensures.0
