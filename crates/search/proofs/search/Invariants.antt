-- Place by place of the queue, until none is left.
use Rattle.std.proofs.Common.{◌-◌}
use Rattle.relaxation.specs.Underway.{Task, Underway}
use Rattle.search.proofs.Searching.{Searching}
use Rattle.search.proofs.search.Given as goal

abbrev pub invariant-loop-place : goal.invariant-loop-place
invariant-loop-place l =
    (q : Task) → Underway q l.lines l.class l.limit 0 l.initial.list.count l.initial.list.end l.initial.work →
    Searching q l.lines l.class l.limit l.initial.work l.work l.place l.list.count l.list.end

abbrev pub decreases-loop-place : goal.decreases-loop-place
decreases-loop-place l = l.lines - l.place
