-- The last position's legs have other last lines too.
use Rattle.std.proofs.Common.{ℕ, sym, subst, true, arith}
use Rattle.way_lengths.specs.Ways.{node}
use Rattle.leg_tests.specs.LegTests.{Own, SoleColumn, ColumnSifted, ColumnTested}
use Rattle.leg_tests.proofs.Walking.{owned_all}
use Rattle.leg_tests.proofs.Termini.{own_node}
use Rattle.leg_tests.proofs.test_to.Goals as goal

pub test_last_column-requires : goal.test_last_column-requires
test_last_column-requires c =
    let a = c.args in
    let p = c.requires.j_nonzero in
    let q = c.requires.set in
    record {
      stretch_nonzero = (omega arith, p.2, p.3);
      set = (q.0, q.1, q.2, q.3, subst (λ (k : ℕ). SoleColumn q.0 a.stretch.numbers.now k a.table.now) c.if-j-stretch.true q.4);
    }

pub returns-then-j-stretch : goal.returns-then-j-stretch
returns-then-j-stretch c m set joint noted sole =
    let a = c.args in
    let e = c.if-j-stretch.true in
    let t = c.test_last_column.ensures m set joint noted (subst (λ (k : ℕ). SoleColumn m a.stretch.numbers.now k a.table.now) e sole) in
    let o = c.test_last_column.new in
    subst (λ (k : ℕ). ColumnTested m a.stretch.lines a.stretch.numbers.now k a.table.now o.table a.work.now o.work) (sym e) t

pub node_of-requires-clause-bounds : goal.node_of-requires-clause-bounds
node_of-requires-clause-bounds c = (omega arith, omega arith)

pub test_column-requires-clause-set : goal.test_column-requires-clause-set
test_column-requires-clause-set c =
    let a = c.args in
    let q = c.requires.set in
    let own = subst (λ (v : ℕ). Own q.0 a.stretch.lines a.stretch.numbers.now a.j (node v)) (sym (c.node_of.ensures q.0 q.1.held).0)
    (own_node q.1.held a.stretch.numbers.now a.stretch.known c.requires.j_nonzero.0 (omega arith)) in
    (q.0, q.1, q.2, own, q.3, q.4)

pub returns : goal.returns
returns c m set joint noted sole =
    let a = c.args in
    let o = c.test_column.new in
    let own = subst (λ (v : ℕ). Own m a.stretch.lines a.stretch.numbers.now a.j (node v)) (sym (c.node_of.ensures m set.held).0)
    (own_node set.held a.stretch.numbers.now a.stretch.known c.requires.j_nonzero.0 (omega arith)) in
    owned_all m a.stretch.numbers.now c.requires.j_nonzero.1
    (subst (λ (v : ℕ). ColumnSifted m a.stretch.lines a.stretch.numbers.now a.j (node v) true a.table.now o.table a.work.now o.work) (c.node_of.ensures m set.held).0
    (c.test_column.ensures m set joint own noted sole))
