-- The next line of the list is a rival, or passed.
use Rattle.std.proofs.Common.{ℕ, ◌-◌, ap, subst, sym, ◌∙◌, arith}
use Rattle.search_cells.specs.Area.{latest}
use Rattle.work_area.specs.Mirror.{mirror}
use Rattle.model.specs.Lines.{line_at}
use Rattle.sole_ways.specs.SoleWays.{Rival}
use Rattle.sole_ways.proofs.Rivals.{passed_start, passed_less, passed_on, passed_found, passed_end}
use Rattle.sole_ways.proofs.along.has_rival.Goals as goal

pub loop-at-init : goal.loop-at-init
loop-at-init c m set arriving =
    let p = c.requires.to_nonzero in
    passed_start
    (c.wide-at.ensures.0 ∙ arriving.firsts c.args.to p.0 p.1
    ∙ ap (λ (l : ℕ). latest m (line_at (mirror m) l).end c.args.stretch.lines) (sym c.wide-own.ensures.0))

pub is_rival-requires : goal.is_rival-requires
is_rival-requires c =
    let q = c.requires.set in
    let k = c.loop-at.invariant q.0 q.1 q.2 in
    (omega (arith, k.list.within), omega (arith, c.args.stretch.known (c.args.to - 1) (omega arith)), (q.0, q.1))

pub returns-then-is_rival : goal.returns-then-is_rival
returns-then-is_rival c m set arriving =
    subst (λ (l : ℕ). Rival m c.args.stretch.lines l c.args.work.now) c.wide-own.ensures.0
    (passed_found (c.loop-at.invariant m set arriving) c.loop-at-test.true (rw c.if-is_rival.true at c.is_rival.ensures))

pub bounds-arrivals-at : goal.bounds-arrivals-at
bounds-arrivals-at c =
    let q = c.requires.set in
    let k = c.loop-at.invariant q.0 q.1 q.2 in
    let f = q.1.held.formed in
    omega (arith, k.list.within, f.few_lines, q.1.held.line_count, q.2.size)

pub loop-at-smaller : goal.loop-at-smaller
loop-at-smaller c =
    let q = c.requires.set in
    let k = c.loop-at.invariant q.0 q.1 q.2 in
    passed_less k c.loop-at-test.true (c.wide-at-in-loop-at.ensures.0 ∙ q.2.nexts _ (omega (arith, k.list.within)))

pub loop-at-preserved : goal.loop-at-preserved
loop-at-preserved c m set arriving =
    let k = c.loop-at.invariant m set arriving in
    passed_on k c.loop-at-test.true (c.wide-at-in-loop-at.ensures.0 ∙ arriving.nexts _ (omega (arith, k.list.within)))
    (rw c.if-is_rival.false at c.is_rival.ensures)

pub returns : goal.returns
returns c m set arriving r =
    passed_end (c.loop-at.invariant m set arriving) (omega arith)
    (subst (λ (l : ℕ). Rival m c.args.stretch.lines l c.args.work.now) (sym c.wide-own.ensures.0) r)
