-- Each turn goes on from the line at one place.
use Rattle.std.proofs.Common.{arith}
use Rattle.relaxation.specs.Underway.{task}
use Rattle.search.specs.Seeds.{Based}
use Rattle.buffers.proofs.Kept.{kept_then, kept_within}
use Rattle.search_cells.proofs.Holding.{few}
use Rattle.search_cells.proofs.Reached.{count_le}
use Rattle.search.proofs.Searching.{searching_step}
use Rattle.search.proofs.Lengths.{settled, tied}
use Rattle.search.proofs.search.Goals as goal

pub expand-list-requires-clause-underway : goal.expand-list-requires-clause-underway
expand-list-requires-clause-underway c =
    let p = c.requires in
    let q = task p.0 c.args.from in
    (q, (c.loop-place.invariant q (c.begin-list.ensures p.0 p.1 p.2 p.3).underway).underway)

pub loop-place-smaller : goal.loop-place-smaller
loop-place-smaller c =
    let p = c.requires in
    let g = (c.loop-place.invariant _ (c.begin-list.ensures p.0 p.1 p.2 p.3).underway).underway in
    let t = c.loop-place-test.true in
    omega (arith, g.room, count_le g.listing, few g.held)

pub loop-place-preserved : goal.loop-place-preserved
loop-place-preserved c =
    λ q g.
    let s = c.loop-place.invariant q g in
    searching_step s (c.expand-list.ensures q s.underway)

pub returns : goal.returns
returns c =
    λ m h ch stands.
    let a = c.args in
    let b = c.begin-list.ensures m h ch stands in
    let s = c.loop-place.invariant _ b.underway in
    let g = s.underway in
    let small = g.small in
    let based : Based m a.lines a.class a.from a.limit c.loop-place.work =
    λ l l< at ok near. let z = b.based l l< at ok near in omega (arith, s.same _ l< (omega arith)) in
    record {
      searched = record { held = g.held; small = small; found = settled g based c.loop-place-test.false; tied = tied g based c.loop-place-test.false };
      chained = g.chained;
      kept = kept_then (kept_within (omega arith) (omega arith) b.kept) s.kept;
    }
