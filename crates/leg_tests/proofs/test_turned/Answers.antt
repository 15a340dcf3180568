-- What the rows say on the map turned round is so on the map.
use Rattle.std.proofs.Common.{refl, arith}
use Rattle.buffers.proofs.Kept.{kept_then, kept_within}
use Rattle.work_area.specs.Mirror.{mirror}
use Rattle.turning.proofs.Straight.{mirrored_twice, alike_back, connected_alike, set_back}
use Rattle.leg_tests.proofs.ArrivalLists.{arriving}
use Rattle.leg_tests.proofs.Straight.{rows_straight}
use Rattle.leg_tests.proofs.test_turned.Goals as goal

pub list_firsts-requires-clause-bounds : goal.list_firsts-requires-clause-bounds
list_firsts-requires-clause-bounds c = (c.requires.stretch_len_bound.0, refl)

pub test_rows-tested-requires-clause-stretch_len_bound : goal.test_rows-tested-requires-clause-stretch_len_bound
test_rows-tested-requires-clause-stretch_len_bound c =
    let p = c.requires.stretch_len_bound in
    (p.0, p.1, p.2)

pub test_rows-tested-requires-clause-set : goal.test_rows-tested-requires-clause-set
test_rows-tested-requires-clause-set c =
    let q = c.requires.set in (
      mirror q.0,
      (c.turn_round.ensures q.0 q.1).set,
      connected_alike (alike_back (mirrored_twice q.0)) q.2,
      arriving c.args.stretch.numbers.now c.requires.stretch_len_bound.0 refl (c.list_firsts.ensures q.0 q.1) (c.list_nexts.ensures q.0 q.1),
    )

pub turn_round-requires-2 : goal.turn_round-requires-2
turn_round-requires-2 c =
    let q = c.requires.set in
    let lists = arriving c.args.stretch.numbers.now c.requires.stretch_len_bound.0 refl (c.list_firsts.ensures q.0 q.1) (c.list_nexts.ensures q.0 q.1) in
    let there = c.turn_round.ensures q.0 q.1 in
    let rows = c.test_rows-tested.ensures.rows_tested (mirror q.0) there.set (connected_alike (alike_back (mirrored_twice q.0)) q.2) lists in
    (mirror q.0, rows.worked.set)

pub returns-clause-sole_tested : goal.returns-clause-sole_tested
returns-clause-sole_tested c m set joint =
    let lists = arriving c.args.stretch.numbers.now c.requires.stretch_len_bound.0 refl (c.list_firsts.ensures m set) (c.list_nexts.ensures m set) in
    let there = c.turn_round.ensures m set in
    let rows = c.test_rows-tested.ensures.rows_tested (mirror m) there.set (connected_alike (alike_back (mirrored_twice m)) joint) lists in
    let back = c.turn_round-2.ensures (mirror m) rows.worked.set in
    record {
      says = rows_straight m c.test_rows-tested.result rows;
      kept = rows.kept;
      set = set_back set.held.formed back.set;
      area = kept_then there.kept (kept_then (kept_within (omega arith) (omega arith) rows.worked.kept) back.kept);
    }
