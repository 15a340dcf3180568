-- The lines below `l` are on their lists, and each line starts at a node.
use Rattle.std.proofs.Common.{ℕ, ◌+◌, ◌<◌, ◌≤◌, length, get_or}
use Rattle.model.specs.Map.{Map, greatest_node_count}
use Rattle.model.specs.Work.{work_length}
use Rattle.work_area.specs.Area.{line_place, start_node}
use Rattle.leg_tests.specs.Leaving.{Listed}
use Rattle.leg_tests.proofs.leaving.list_leaving.Given as goal

abbrev pub invariant-loop-l : goal.invariant-loop-l
invariant-loop-l l =
    record {
      full : work_length ≤ length l.work;
      starts : (k : ℕ) → k < l.lines → get_or l.work (line_place k + start_node) 0 < greatest_node_count;
      listed : (m : Map) → Listed m l.lines 0 l.initial.work l.initial.work → Listed m l.lines l.l l.initial.work l.work;
    }
