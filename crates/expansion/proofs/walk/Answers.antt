-- One line of the walk after another.
use Rattle.expansion.proofs.Walking.{sets_line, walking_start, walking_went, walking_within, walking_few, walking_goes, walking_line, walking_meets, walking_less, walking_step, walking_end}
use Rattle.expansion.proofs.walk.Goals as goal

pub walk_start-at-requires : goal.walk_start-at-requires
walk_start-at-requires c =
    let p = c.requires.by_index in
    record { line_lt_lines = (sets_line p.2 p.3, c.requires.other_lt_lines); mirrored = (_, p.2.held, p.2.chained) }

pub loop-at-init : goal.loop-at-init
loop-at-init c = λ q place g s. walking_start g s (c.walk_start-at.ensures _ g.held g.chained)

pub walk_line-j-requires : goal.walk_line-j-requires
walk_line-j-requires c =
    let p = c.requires.by_index in
    let k = c.loop-at.invariant p.0 p.1 p.2 p.3 in
    let t = c.loop-at-test.true in
    (t, walking_few k t, (walking_went k).underway.held.full)

pub relax-reached-requires : goal.relax-reached-requires
relax-reached-requires c =
    let p = c.requires.by_index in
    let k = c.loop-at.invariant p.0 p.1 p.2 p.3 in
    let t = c.loop-at-test.true in
    let j = c.walk_line-j.ensures in
    record {
      j_lt_lines = walking_line k t j;
      by_index = (_, _, (walking_went k).underway, walking_goes k t, walking_meets k t j p.3.ends);
    }

pub walk_next-at-requires : goal.walk_next-at-requires
walk_next-at-requires c =
    let p = c.requires.by_index in
    let k = c.loop-at.invariant p.0 p.1 p.2 p.3 in
    let t = c.loop-at-test.true in
    let r = c.relax-reached.ensures _ _ (walking_went k).underway (walking_goes k t) (walking_meets k t c.walk_line-j.ensures p.3.ends) in
    let g = r.underway in
    record { at_nonzero = (t, walking_few k t, walking_within k); mirrored = (_, g.held, g.chained) }

pub loop-at-smaller : goal.loop-at-smaller
loop-at-smaller c =
    let p = c.requires.by_index in
    let k = c.loop-at.invariant p.0 p.1 p.2 p.3 in
    let t = c.loop-at-test.true in
    let j = c.walk_line-j.ensures in
    let r = c.relax-reached.ensures _ _ (walking_went k).underway (walking_goes k t) (walking_meets k t j p.3.ends) in
    let g = r.underway in
    walking_less k t j r (c.walk_next-at.ensures _ g.held g.chained)

pub loop-at-preserved : goal.loop-at-preserved
loop-at-preserved c =
    λ q place g s.
    let k = c.loop-at.invariant q place g s in
    let t = c.loop-at-test.true in
    let j = c.walk_line-j.ensures in
    let r = c.relax-reached.ensures q place (walking_went k).underway (walking_goes k t) (walking_meets k t j s.ends) in
    let u = r.underway in
    walking_step k t j r (c.walk_next-at.ensures _ u.held u.chained)

pub returns : goal.returns
returns c = λ q place g s. walking_end (c.loop-at.invariant q place g s) c.loop-at-test.false
