-- One line more is on the list of its start node.
use Rattle.std.proofs.Common.{◌≡◌, ◌∙◌, arith}
use Rattle.sole_ways.proofs.Working.{worked_then}
use Rattle.leg_tests.proofs.LeavingLists.{listed_none, listed_again, listed_more, starts_small}
use Rattle.leg_tests.proofs.leaving.list_leaving.Goals as goal

pub loop-l-init : goal.loop-l-init
loop-l-init c =
    let none = listed_none c.fill.ensures c.requires.1 in
    record { full = none.worked.set.held.full; starts = starts_small none; listed = λ m k. k }

pub loop-l-preserved : goal.loop-l-preserved
loop-l-preserved c =
    let p = c.requires in
    let l = c.loop-l.invariant in
    let at = c.wide-v.ensures.0 ∙ c.field.ensures in
    let more = listed_more (l.listed p.0 (listed_again (listed_none c.fill.ensures p.1))) c.loop-l-test.true at in
    record {
      full = more.worked.set.held.full;
      starts = starts_small more;
      listed = λ m k. listed_more (l.listed m k) c.loop-l-test.true at;
    }

pub returns : goal.returns
returns c m set =
    let none = listed_none c.fill.ensures set in
    let e : c.loop-l.l ≡ c.args.lines = omega arith in
    let s = rw e at (c.loop-l.invariant.listed m (listed_again none)) in
    record { leaving = s.leaving; worked = worked_then none.worked s.worked }
