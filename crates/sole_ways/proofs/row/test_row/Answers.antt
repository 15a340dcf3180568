-- The next leg is known to be a sole way, or tested; no leg behind one that is too long, barred or broken is a sole way.
use Rattle.std.proofs.Common.{◌≤◌, refl, ◌∙◌, arith}
use Rattle.model.specs.Reading.{greatest_leg_length}
use Rattle.work_area.specs.Mirror.{mirror}
use Rattle.sole_ways.proofs.Rows.{row_start}
use Rattle.sole_ways.proofs.RowLegs.{in_row_start, before_kept, on_trial, tested_next, start_next, follows_next, in_row_known, in_row_long, in_row_barred, in_row_yes, in_row_no, in_row_broken, row_cleared_then, in_row_end}
use Rattle.sole_ways.proofs.row.test_row.Goals as goal

pub loop-part-init : goal.loop-part-init
loop-part-init c =
    let p = c.requires.i_lt_end in
    rw c.none_from-part.ensures (record {
      first = refl;
      after = omega arith;
      room = omega arith;
      short = omega arith;
      row = λ m set joint arriving before.
          in_row_start c.args.stretch.numbers.now (omega arith) (row_start (mirror m) c.args.stretch.numbers.now c.args.i c.args.end c.clear_row.ensures) set;
    })

pub one_more-part-requires-clause-held : goal.one_more-part-requires-clause-held
one_more-part-requires-clause-held c =
    let q = c.requires.set in
    let k = c.loop-part.invariant.row q.0 q.1 q.2 q.3 (before_kept c.args.i c.args.end c.requires.i_lt_end.2 c.clear_row.ensures.kept q.4) in
    (q.0, k.worked.set.held)

pub returns-then-bars : goal.returns-then-bars
returns-then-bars c m set joint arriving before walled =
    let p = c.requires.i_lt_end in
    let l = c.loop-part.invariant in
    let one = c.one_more-part.ensures in
    let k = l.row m set joint arriving (before_kept c.args.i c.args.end p.2 c.clear_row.ensures.kept before) in (
      walled,
      row_cleared_then c.clear_row.ensures
          (in_row_barred joint p.1 l.first l.after c.loop-part-test.true one.one_more k (one.measures m k.worked.set.held k.measured) _ walled
          (rw c.if-bars.true at c.bars.ensures)),
    )

pub loop-part-preserved-then-is_known : goal.loop-part-preserved-then-is_known
loop-part-preserved-then-is_known c =
    let p = c.requires.i_lt_end in
    let l = c.loop-part.invariant in
    let one = c.one_more-part.ensures in
    let less = c.loop-part-test.true in
    record {
      first = one.one_more.from ∙ l.first;
      after = omega (arith, one.one_more.to);
      room = omega (arith, one.one_more.to);
      short = omega arith;
      row = λ m set joint arriving before.
          let k = l.row m set joint arriving before in
          in_row_known joint p.1 l.first l.after less one.one_more k (one.measures m k.worked.set.held k.measured) (omega (arith, one.one_more.to))
          (before_kept c.args.i c.args.end p.2 k.row.kept before) (rw c.if-is_known.true at c.is_known.ensures);
    }

pub test_sole-test-requires-clause-set : goal.test_sole-test-requires-clause-set
test_sole-test-requires-clause-set c =
    let p = c.requires.i_lt_end in
    let q = c.requires.set in
    let l = c.loop-part.invariant in
    let one = c.one_more-part.ensures in
    let less = c.loop-part-test.true in
    let k = l.row q.0 q.1 q.2 q.3 (before_kept c.args.i c.args.end p.2 c.clear_row.ensures.kept q.4) in
    let next = one.measures q.0 k.worked.set.held k.measured in (
      q.0,
      k.worked.set,
      on_trial q.2 p.1 l.first l.after less one.one_more k next c.args.stretch.known (omega arith),
      q.3,
      start_next q.2 p.1 l.first l.after less one.one_more k next,
      follows_next q.2 p.1 l.first l.after less one.one_more k next,
    )

pub loop-part-preserved-then-test : goal.loop-part-preserved-then-test
loop-part-preserved-then-test c =
    let p = c.requires.i_lt_end in
    let l = c.loop-part.invariant in
    let one = c.one_more-part.ensures in
    let less = c.loop-part-test.true in
    let short : c.one_more-part.result.length ≤ greatest_leg_length = omega arith in
    record {
      first = one.one_more.from ∙ l.first;
      after = omega (arith, one.one_more.to);
      room = omega (arith, one.one_more.to);
      short = omega arith;
      row = λ m set joint arriving before.
          let k = l.row m set joint arriving before in
          let next = one.measures m k.worked.set.held k.measured in
          let tested = tested_next joint p.1 l.first l.after less one.one_more k next c.args.stretch.known short arriving (c.test_sole-test.ensures m) in
          in_row_yes joint p.1 l.first l.after less one.one_more k next short tested (omega (arith, one.one_more.to)) c.if-test.true;
    }

pub find_wall-found-requires-clause-set : goal.find_wall-found-requires-clause-set
find_wall-found-requires-clause-set c =
    let q = c.requires.set in
    let p = c.requires.i_lt_end in
    let l = c.loop-part.invariant in
    let one = c.one_more-part.ensures in
    let less = c.loop-part-test.true in
    let short : c.one_more-part.result.length ≤ greatest_leg_length = omega arith in
    let k = l.row q.0 q.1 q.2 q.3 (before_kept c.args.i c.args.end p.2 c.clear_row.ensures.kept q.4) in
    let next = one.measures q.0 k.worked.set.held k.measured in
    let tested = tested_next q.2 p.1 l.first l.after less one.one_more k next c.args.stretch.known short q.3 (c.test_sole-test.ensures q.0) in
    (q.0, tested.worked.set, rw (one.one_more.from ∙ l.first) at tested.follows)

pub returns-then-along-j : goal.returns-then-along-j
returns-then-along-j c m set joint arriving before walled =
    let p = c.requires.i_lt_end in
    let l = c.loop-part.invariant in
    let one = c.one_more-part.ensures in
    let less = c.loop-part-test.true in
    let short : c.one_more-part.result.length ≤ greatest_leg_length = omega arith in
    let k = l.row m set joint arriving (before_kept c.args.i c.args.end p.2 c.clear_row.ensures.kept before) in
    let next = one.measures m k.worked.set.held k.measured in
    let tested = tested_next joint p.1 l.first l.after less one.one_more k next c.args.stretch.known short arriving (c.test_sole-test.ensures m) in (
      c.find_wall-found.ensures m tested.worked.set joint (rw (one.one_more.from ∙ l.first) at tested.follows) walled,
      row_cleared_then c.clear_row.ensures
          (in_row_broken joint p.1 l.first l.after less one.one_more k next short tested c.if-test.false c.if-along-j.true),
    )

pub loop-part-preserved : goal.loop-part-preserved
loop-part-preserved c =
    let p = c.requires.i_lt_end in
    let l = c.loop-part.invariant in
    let one = c.one_more-part.ensures in
    let less = c.loop-part-test.true in
    let short : c.one_more-part.result.length ≤ greatest_leg_length = omega arith in
    record {
      first = one.one_more.from ∙ l.first;
      after = omega (arith, one.one_more.to);
      room = omega (arith, one.one_more.to);
      short = omega arith;
      row = λ m set joint arriving before.
          let k = l.row m set joint arriving before in
          let next = one.measures m k.worked.set.held k.measured in
          let tested = tested_next joint p.1 l.first l.after less one.one_more k next c.args.stretch.known short arriving (c.test_sole-test.ensures m) in
          in_row_no joint p.1 l.first l.after less one.one_more k next short tested c.if-test.false;
    }

pub returns-after-loop-part : goal.returns-after-loop-part
returns-after-loop-part c m set joint arriving before walled = (
  walled,
  row_cleared_then c.clear_row.ensures
      (in_row_end (omega arith)
      (c.loop-part.invariant.row m set joint arriving (before_kept c.args.i c.args.end c.requires.i_lt_end.2 c.clear_row.ensures.kept before))),
)

pub returns-then-part-gt-GREATEST_LEG_LENGTH : goal.returns-then-part-gt-GREATEST_LEG_LENGTH
returns-then-part-gt-GREATEST_LEG_LENGTH c m set joint arriving before walled =
    let p = c.requires.i_lt_end in
    let l = c.loop-part.invariant in
    let one = c.one_more-part.ensures in
    let k = l.row m set joint arriving (before_kept c.args.i c.args.end p.2 c.clear_row.ensures.kept before) in (
      walled,
      row_cleared_then c.clear_row.ensures
          (in_row_long joint p.1 l.first l.after c.loop-part-test.true one.one_more k (one.measures m k.worked.set.held k.measured) (omega arith)),
    )
