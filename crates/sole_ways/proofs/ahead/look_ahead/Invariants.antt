-- Class and length only grow.
use Rattle.std.proofs.Common.{◌≤◌, ◌-◌, max}
use Rattle.sole_ways.proofs.ahead.look_ahead.Given as goal

abbrev pub invariant-loop-far : goal.invariant-loop-far
invariant-loop-far l =
    record { class : l.initial.far.class ≤ l.far.class; length : l.initial.far.length ≤ l.far.length; few : l.far.class ≤ max l.initial.far.class l.most }

abbrev pub decreases-loop-far : goal.decreases-loop-far
decreases-loop-far l = l.end - l.far.to
