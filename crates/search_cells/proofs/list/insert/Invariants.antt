-- From the end on, the greater keys are moved by one.
use Rattle.std.proofs.Common.{ℕ, ◌≤◌, ◌<◌}
use Rattle.search_cells.specs.Area.{queued}
use Rattle.search_cells.proofs.Inserting.{Inserting}
use Rattle.search_cells.proofs.list.insert.Given as goal

abbrev pub invariant-loop-work : goal.invariant-loop-work
invariant-loop-work l = record {
  some : 0 < l.i;
  inside : l.i ≤ l.end;
  moved : (place : ℕ) → place < l.end → queued l.fn.work place ≤ l.key → Inserting place l.end l.key l.i l.fn.work l.work;
}

abbrev pub decreases-loop-work : goal.decreases-loop-work
decreases-loop-work l = l.i
