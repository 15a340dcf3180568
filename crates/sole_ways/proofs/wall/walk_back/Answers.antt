-- The way back takes a line in, or meets the stretch where the wall begins.
use Rattle.std.proofs.Common.{ℕ, ◌-◌, ◌≤◌, ◌≡◌, refl, ◌∙◌, subst, List, get_or, arith}
use Rattle.model.specs.Map.{Map}
use Rattle.search_cells.specs.Area.{length_to}
use Rattle.sole_ways.specs.declared.ahead.Along.{Along}
use Rattle.sole_ways.specs.SoleWays.{Follows}
use Rattle.sole_ways.proofs.Walking.{class_held, back_start, back_known, back_less, back_on, back_met}
use Rattle.sole_ways.proofs.wall.walk_back.Goals as goal

limit_of : {m : Map} {lines i to : ℕ} {s w : List ℕ} {b : Along} → Follows m lines s i w b → b.to ≡ to → length_to w (get_or s (to - 1) 0) ≤ b.limit
limit_of {s = s} {w = w} {b = b} f e = subst (λ (x : ℕ). length_to w (get_or s (x - 1) 0) ≤ b.limit) e f.near

pub loop-k-init : goal.loop-k-init
loop-k-init c =
    record {
      before = omega arith;
      back = λ m b set f e j.
          back_start f.searched j.known (omega (arith, j.near, limit_of f e)) (class_held _ set j.known c.field-class.ensures);
    }

pub returns-then-at-own : goal.returns-then-at-own
returns-then-at-own c m set joint f j old =
    let l = c.loop-k in
    back_met c.args.stretch.known joint f l.k c.loop-k-test.true l.invariant.before c.requires.bounds.0 (c.if-at-own.true ∙ c.wide-own.ensures.0) j (l.invariant.back m _ set f refl j)

pub loop-k-smaller : goal.loop-k-smaller
loop-k-smaller c =
    let q = c.requires.set in
    omega (arith, back_less q.2.searched c.in-Some.x (c.loop-k.invariant.back q.0 _ q.1 q.2 refl q.3) c.in-Some.ensures)

pub loop-k-preserved : goal.loop-k-preserved
loop-k-preserved c =
    record {
      before = c.loop-k.invariant.before;
      back = λ m b set f e j.
          let k = c.loop-k.invariant.back m b set f e j in
          let x = c.in-Some.x in
          let known = back_known f.searched x k c.in-Some.ensures in
          rw c.max-class.ensures (back_on f.searched x k c.in-Some.ensures (class_held x set known c.field.ensures));
    }
