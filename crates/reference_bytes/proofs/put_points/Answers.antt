-- The points before leg `t` are put.
use Rattle.std.proofs.Common.{◌∙◌, sym, ap, List, ℕ, arith}
use Rattle.buffers.specs.Placed.{put_at}
use Rattle.buffers.proofs.Placing.{put_none}
use Rattle.reference_bytes.proofs.Bytes.{points_none, put_next, put_all}
use Rattle.reference_bytes.proofs.Cutting.{part_good}
use Rattle.reference_bytes.proofs.put_points.Goals as goal

pub loop-t-init : goal.loop-t-init
loop-t-init c m cs h k =
    sym (ap (λ (l : List ℕ). put_at 7 l c.args.bytes.now) (points_none m c.args.stretch.numbers.now cs) ∙ put_none 7 c.args.bytes.now)

pub point_of-point-requires-clause-held : goal.point_of-point-requires-clause-held
point_of-point-requires-clause-held c =
    let p = c.requires.by_index in
    (p.0, _, rw c.leg_of-leg.ensures.map p.2, part_good p.3 c.loop-t.t c.loop-t-test.true (c.leg_of-leg.ensures.leg p.0 p.1 p.3))

pub put_point-requires : goal.put_point-requires
put_point-requires c =
    let p = c.requires.by_index in
    let is = c.point_of-point.ensures p.0 _ (rw c.leg_of-leg.ensures.map p.2) (part_good p.3 c.loop-t.t c.loop-t-test.true (c.leg_of-leg.ensures.leg p.0 p.1 p.3)) in
    (is.p, is.q, is.d, omega (arith, c.requires.legs_in_bounds.1))

pub loop-t-preserved : goal.loop-t-preserved
loop-t-preserved c m cs h k =
    let e = c.leg_of-leg.ensures.leg m cs k in
    let is = c.point_of-point.ensures m _ (rw c.leg_of-leg.ensures.map h) (part_good k c.loop-t.t c.loop-t-test.true e) in
    put_next k c.loop-t.t c.loop-t-test.true c.args.bytes.now c.requires.legs_in_bounds.1 (c.loop-t.invariant m cs h k)
    c.point_of-point.result c.put_point.ensures (rw e at is)

pub returns : goal.returns
returns c m cs h k = put_all k c.loop-t.t (omega arith) c.args.bytes.now (c.loop-t.invariant m cs h k)
