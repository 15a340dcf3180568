-- Line by line of either walk.
use Rattle.std.proofs.Common.{ℕ}
use Rattle.relaxation.specs.Underway.{Task, Underway}
use Rattle.expansion.specs.Steps.{Sets}
use Rattle.expansion.proofs.Walking.{Walking}
use Rattle.expansion.proofs.walk.Given as goal

abbrev pub invariant-loop-at : goal.invariant-loop-at
invariant-loop-at l =
    (q : Task) (place : ℕ) → Underway q l.lines l.class l.limit place l.fn.list.count l.fn.list.end l.fn.work →
    Sets q.map l.lines place l.fn.list.end l.going l.other l.fn.work →
    Walking q l.lines l.class l.limit place l.going l.other l.fn.work l.work l.at l.reached.count l.reached.end

abbrev pub decreases-loop-at : goal.decreases-loop-at
decreases-loop-at l = l.at
