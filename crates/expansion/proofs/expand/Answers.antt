-- One walk after another, until all are gone.
use Rattle.std.proofs.Common.{◌≡◌, ℕ, arith}
use Rattle.expansion.proofs.Barred.{ready, walks_in, walks_underway, walks_sets, walks_step, walks_end, expanded_kept}
use Rattle.expansion.proofs.expand.Goals as goal

pub begin_walks-pair-requires : goal.begin_walks-pair-requires
begin_walks-pair-requires c =
    let g = c.requires.underway in
    let inside = c.requires.place_lt_end in
    (_, _, _, _, _, g.1, inside, c.going_at-going.ensures _ _ _ _ _ g.1 inside)

pub walk-reached-requires : goal.walk-reached-requires
walk-reached-requires c =
    let g = c.requires.underway.1 in
    let inside = c.requires.place_lt_end in
    let o = c.going_at-going.ensures _ _ _ _ _ g inside in
    let r = ready g inside o (c.begin_walks-pair.ensures _ _ _ _ _ g inside o) in
    let k = c.loop-i.invariant _ r in
    let many = c.walks-i-end.ensures in
    let t = c.loop-i-test.true in
    let along = c.walk_of.ensures in
    record {
      other_lt_lines = walks_in r k many t _ along;
      by_index = (_, _, walks_underway r k many t, walks_sets r k many t _ along);
    }

pub loop-i-preserved : goal.loop-i-preserved
loop-i-preserved c =
    λ q r.
    let k = c.loop-i.invariant q r in
    let many = c.walks-i-end.ensures in
    let t = c.loop-i-test.true in
    let along = c.walk_of.ensures in
    walks_step r k many t _ along (c.walk-reached.ensures q _ (walks_underway r k many t) (walks_sets r k many t _ along))

pub returns : goal.returns
returns c =
    λ q g.
    let inside = c.requires.place_lt_end in
    let o = c.going_at-going.ensures q _ _ _ _ g inside in
    let p = c.begin_walks-pair.ensures q _ _ _ _ g inside o in
    let r = ready g inside o p in
    let all : ◌≡◌ {A = ℕ} c.loop-i.i c.walks-i-end.result = omega arith in
    expanded_kept g p.aside (walks_end r (c.loop-i.invariant q r) c.walks-i-end.ensures all)
