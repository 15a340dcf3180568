-- One row more, or the tests are made.
use Rattle.std.proofs.Common.{ℕ, ◌+◌, ◌-◌, ◌≡◌, ap, ◌∙◌, min, length, arith}
use Rattle.model.specs.LegTests.{legs_before}
use Rattle.sole_ways.proofs.Ordered.{legs_none, made_early, made_all, left_after, ordered_start, row_before, ordered_on, ordered_end}
use Rattle.sole_ways.proofs.test_rows.Goals as goal

pub loop-i-init : goal.loop-i-init
loop-i-init c =
    record {
      left_over = omega (arith, legs_none (length c.args.stretch.numbers.now));
      ordered = λ m set joint arriving. (ordered_start c.requires.stretch_len_bound.2 set, tt);
    }

pub returns-then-left-eq0 : goal.returns-then-left-eq0
returns-then-left-eq0 c =
    let l = c.loop-i in
    let n = length c.args.stretch.numbers.now in
    let none : c.args.tests - legs_before n l.i ≡ 0 = omega arith in
    let made = made_early n c.args.tests l.i (omega arith) none in
    record { value = made; rows_tested = λ m set joint arriving. ordered_end made (λ h. omega (arith, none)) (l.invariant.ordered m set joint arriving).0 }

pub test_row-row-requires : goal.test_row-row-requires
test_row-row-requires c =
    let p = c.requires.stretch_len_bound in
    let q = c.requires.set in
    let l = c.loop-i in
    let k = (l.invariant.ordered q.0 q.1 q.2 q.3).0 in
    record {
      i_lt_end = (omega arith, omega arith, p.0, omega arith);
      set = (q.0, k.worked.set, q.2, q.3, row_before (omega arith) k);
    }

pub loop-i-preserved : goal.loop-i-preserved
loop-i-preserved c =
    let l = c.loop-i in
    let r = c.test_row-row in
    let n = length c.args.stretch.numbers.now in
    let end = l.i + c.min.result in
    let e : end ≡ min n (l.i + l.left) = omega arith in
    record {
      left_over = left_after n c.args.tests l.i end l.left c.loop-i-test.true l.invariant.left_over e;
      ordered = λ m set joint arriving.
          let k = l.invariant.ordered m set joint arriving in
          let tested = r.ensures m k.0.worked.set joint arriving (row_before (omega arith) k.0) k.1 in
          (ordered_on c.requires.stretch_len_bound.0 c.loop-i-test.true (omega arith) (omega arith) k.0 tested.1, tested.0);
    }

pub returns : goal.returns
returns c =
    let l = c.loop-i in
    let n = length c.args.stretch.numbers.now in
    let all : l.i ≡ n = omega arith in
    let made = made_all n c.args.tests l.left (l.invariant.left_over ∙ ap (λ (k : ℕ). c.args.tests - legs_before n k) all) in
    record {
      value = made;
      rows_tested = λ m set joint arriving. ordered_end made (λ h. absurd (omega (arith, all))) (l.invariant.ordered m set joint arriving).0;
    }
