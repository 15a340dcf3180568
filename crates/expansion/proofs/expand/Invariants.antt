-- Walk by walk.
use Rattle.relaxation.specs.Underway.{Task}
use Rattle.expansion.proofs.Barred.{Ready, Walks}
use Rattle.expansion.proofs.expand.Given as goal

abbrev pub invariant-loop-i : goal.invariant-loop-i
invariant-loop-i l =
    (q : Task) → Ready q l.lines l.class l.limit l.place l.going l.pair l.initial.work l.fn.list.count l.fn.list.end →
    Walks q l.lines l.class l.limit l.place l.going l.pair l.initial.work l.work l.fn.list.count l.fn.list.end l.i l.reached.count l.reached.end
