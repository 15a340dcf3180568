-- One leg more.
use Rattle.std.proofs.Common.{◌+◌, ◌*◌, ◌-◌, ◌<◌, refl, sym, ◌∙◌, length, arith}
use Rattle.leg_tests.proofs.Sifting.{column_none, column_store, noted_kept, sifting_start, sifting_on, earlier_set}
use Rattle.leg_tests.proofs.Trials.{leg_of_lem}
use Rattle.leg_tests.proofs.columns.test_column.Goals as goal

pub loop-i-init : goal.loop-i-init
loop-i-init c = record { kept = column_none; earlier = λ k h. refl; sifting = λ m set joint there noted sole. sifting_start set }

pub test_cell-cell-requires : goal.test_cell-cell-requires
test_cell-cell-requires c =
    let a = c.args in
    let p = c.requires.j_nonzero in
    let q = c.requires.set in
    let l = c.loop-i in
    let k = l.invariant.sifting q.0 q.1 q.2 q.3 q.4 q.5 in
    let before : l.i - 1 < a.j = omega arith in (
      q.0,
      k.worked.set,
      leg_of_lem q.1 q.2 p.2 before p.1,
      λ one. q.5 (l.i - 1) before (sym (l.invariant.earlier (l.i - 1) (omega arith)) ∙ one),
      noted_kept q.0 a.stretch.lines a.stretch.numbers.now p.0 l.invariant.kept q.4 (l.i - 1) (omega arith),
      q.3,
      k.done,
    )

pub loop-i-preserved : goal.loop-i-preserved
loop-i-preserved c =
    let a = c.args in
    let p = c.requires.j_nonzero in
    let l = c.loop-i in
    let before : l.i - 1 < a.j = omega arith in
    let room : 65 * (l.i - 1) + a.j < length l.table = omega arith in
    let same = l.invariant.earlier (l.i - 1) (omega arith) in
    record {
      kept = column_store (l.i - 1) _ before (omega arith) l.invariant.kept;
      earlier = earlier_set a.table.now l.table l.i a.j _ (omega arith) l.invariant.earlier;
      sifting = λ m set joint there noted sole.
          let k = l.invariant.sifting m set joint there noted sole in
          sifting_on c.test_cell-cell.result k (omega arith) room same
          (c.test_cell-cell.ensures m k.worked.set (leg_of_lem set joint p.2 before p.1) (λ one. sole (l.i - 1) before (sym same ∙ one))
          (noted_kept m a.stretch.lines a.stretch.numbers.now p.0 l.invariant.kept noted (l.i - 1) (omega arith)) there k.done);
    }

pub returns : goal.returns
returns c m set joint there noted sole =
    let l = c.loop-i in
    let k = l.invariant.sifting m set joint there noted sole in
    record { sifted = λ i h. k.sifted i (omega arith) h; kept = l.invariant.kept; worked = k.worked }
