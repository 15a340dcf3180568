-- The walk from the first line on.
use Rattle.std.proofs.Common.{arith}
use Rattle.search_cells.proofs.Holding.{few}
use Rattle.ways.proofs.Mirroring.{beyond_back}
use Rattle.ways.proofs.Back.{walked_less, walked_step, walked_few, walked_last, told_several, told_one}
use Rattle.ways.proofs.ways_from.Goals as goal

pub returns-then-limit-length : goal.returns-then-limit-length
returns-then-limit-length c =
    λ m k to s.
    let e = c.length_to-length.ensures in
    let t = c.if-limit-length.true in
    beyond_back ((s.found _ c.requires.first_lt_lines).far (omega arith))

pub returns-then-x-ge-SEVERAL : goal.returns-then-x-ge-SEVERAL
returns-then-x-ge-SEVERAL c =
    λ m k to s.
    let e = c.length_to-length.ensures in
    let i = c.loop-x.invariant in
    let near = c.if-limit-length.false in
    let t = c.if-x-ge-SEVERAL.true in
    rw e (told_several s c.requires.first_lt_lines (omega arith) (i.walked m k to s) (omega (arith, i.here)))

pub overflow_add-count : goal.overflow_add-count
overflow_add-count c =
    let p = c.requires.by_index in
    let k = c.loop-x.invariant.walked p.0 p.1 p.2 p.3 in
    omega (arith, walked_few c.requires.first_lt_lines k, few p.3.held)

pub loop-x-smaller : goal.loop-x-smaller
loop-x-smaller c =
    let p = c.requires.by_index in
    let i = c.loop-x.invariant in
    let t = c.loop-x-test.true in
    let u = c.if-x-ge-SEVERAL.false in
    rw (c.wide-at.ensures.0, i.here) (walked_less p.3 (i.walked p.0 p.1 p.2 p.3) (omega (arith, i.here)) (omega (arith, i.here)))

pub loop-x-preserved : goal.loop-x-preserved
loop-x-preserved c =
    let i = c.loop-x.invariant in
    let t = c.loop-x-test.true in
    let u = c.if-x-ge-SEVERAL.false in
    record {
      here = c.predecessor_at-x-in-loop-x.ensures;
      walked = λ m k to z.
          rw (c.wide-at.ensures.0, i.here) (walked_step z (i.walked m k to z) (omega (arith, i.here)) (omega (arith, i.here)));
    }

pub returns : goal.returns
returns c =
    λ m k to s.
    let l = c.requires.first_lt_lines in
    let i = c.loop-x.invariant in
    let w = i.walked m k to s in
    let near = c.if-limit-length.false in
    let t = c.loop-x-test.false in
    let e = c.length_to-length.ensures in
    rw e (told_one s l (omega arith) w (omega (arith, i.here)), walked_last s w, w.some, walked_few l w)
