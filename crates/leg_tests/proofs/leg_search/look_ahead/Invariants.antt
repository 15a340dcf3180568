-- A length only grows.
use Rattle.std.proofs.Common.{◌≤◌}
use Rattle.leg_tests.proofs.leg_search.look_ahead.Given as goal

abbrev pub invariant-loop-k : goal.invariant-loop-k
invariant-loop-k l = l.len ≤ l.far
