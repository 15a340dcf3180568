-- One line more.
use Rattle.std.proofs.Common.{◌+◌, ◌-◌, ◌≡◌, arith}
use Rattle.model.specs.Lines.{line_at}
use Rattle.search_cells.proofs.Holding.{mirrored}
use Rattle.search_cells.proofs.Leaving.{latest_le}
use Rattle.work_area.specs.Mirror.{mirror}
use Rattle.leg_tests.proofs.ArrivalLists.{nexts_none, nexts_more}
use Rattle.leg_tests.proofs.arrivals.list_nexts.Goals as goal

pub loop-l-init : goal.loop-l-init
loop-l-init c m set = nexts_none

pub next_leaving-requires : goal.next_leaving-requires
next_leaving-requires c =
    let p = c.requires.set in
    record { at_nonzero = (omega arith, omega arith); mirrored = (mirror p.0, mirrored p.1.held, p.1.chained) }

pub overflow_cast-arrivals : goal.overflow_cast-arrivals
overflow_cast-arrivals c =
    let p = c.requires.set in
    let n = c.loop-l.l + 1 in
    let f = p.1.held.formed in
    omega (
      arith,
      c.next_leaving.ensures (mirror p.0) (mirrored p.1.held) p.1.chained,
      latest_le (mirror p.0) (line_at (mirror p.0) (n - 1)).start (n - 1),
      f.few_lines,
      p.1.held.line_count,
    )

pub bounds-arrivals-l : goal.bounds-arrivals-l
bounds-arrivals-l c = let p = c.requires.set in let f = p.1.held.formed in omega (arith, f.few_lines, p.1.held.line_count)

pub loop-l-preserved : goal.loop-l-preserved
loop-l-preserved c m set =
    let l = c.loop-l in
    let at : l.l + 1 - 1 ≡ l.l = omega arith in
    let f = set.held.formed in
    nexts_more l.l c.next_leaving.result (omega (arith, f.few_lines, set.held.line_count))
    (rw at at (c.next_leaving.ensures (mirror m) (mirrored set.held) set.chained)) (l.invariant m set)

pub returns : goal.returns
returns c m set =
    let e : c.loop-l.l ≡ c.args.lines = omega arith in
    rw e at (c.loop-l.invariant m set)
