-- One position more.
use Rattle.std.proofs.Common.{ℕ, ◌≡◌, ap, ◌∙◌, length, arith}
use Rattle.search_cells.specs.Area.{latest}
use Rattle.search_cells.proofs.Holding.{mirrored}
use Rattle.search_cells.proofs.Leaving.{latest_le}
use Rattle.work_area.specs.Mirror.{mirror}
use Rattle.leg_tests.proofs.ArrivalLists.{firsts_none, firsts_more}
use Rattle.leg_tests.proofs.arrivals.list_firsts.Goals as goal

pub loop-j-init : goal.loop-j-init
loop-j-init c m set = firsts_none

pub first_leaving-requires : goal.first_leaving-requires
first_leaving-requires c =
    let p = c.requires.set in
    (mirror p.0, mirrored p.1.held, p.1.chained, (c.node_of-v.ensures p.0 p.1.held).1)

pub overflow_cast-arrivals : goal.overflow_cast-arrivals
overflow_cast-arrivals c =
    let p = c.requires.set in
    let v = c.node_of-v.ensures p.0 p.1.held in
    let f = p.1.held.formed in
    omega (
      arith,
      c.first_leaving.ensures (mirror p.0) (mirrored p.1.held) p.1.chained v.1,
      latest_le (mirror p.0) c.node_of-v.result c.args.stretch.lines,
      f.few_lines,
      p.1.held.line_count,
    )

pub loop-j-preserved : goal.loop-j-preserved
loop-j-preserved c m set =
    let l = c.loop-j in
    let v = c.node_of-v.ensures m set.held in
    firsts_more l.j c.first_leaving.result (omega arith)
    (c.first_leaving.ensures (mirror m) (mirrored set.held) set.chained v.1 ∙ ap (λ (x : ℕ). latest (mirror m) x c.args.stretch.lines) v.0) (l.invariant m set)

pub returns : goal.returns
returns c m set =
    let e : c.loop-j.j ≡ length c.args.stretch.numbers.now = omega arith in
    rw e at (c.loop-j.invariant m set)
