-- The termini of a leg, one after another: its end node; or, on the last leg, each line that arrives there, from the last one down.
-- `at` is where that has come to: 1 + the next line, or, for the node, the count of lines; 0 once all have been asked.
use Rattle.std.specs.Prelude.{ℕ, ◌-◌, ◌≤◌, ◌≡◌}
use Rattle.model.specs.Map.{Map}
use Rattle.model.specs.Lines.{line_at}
use Rattle.model.specs.Reading.{Arrival, any, matching}
use Rattle.work_area.specs.Mirror.{mirror}
use Rattle.way_lengths.specs.declared.Terminus.{Terminus}
use Rattle.way_lengths.specs.declared.Terminus.TheVariants.{Line, Node}
use Rattle.search_cells.specs.Area.{latest}

-- Where it begins, for a leg to node `v`; where it goes on; and which terminus it is at.
abbrev pub first_at : Map → ℕ → Arrival → ℕ → ℕ
first_at m lines any v = lines
first_at m lines (matching a) v = latest (mirror m) v lines

abbrev pub next_at : Map → Arrival → ℕ → ℕ
next_at m any at = 0
next_at m (matching a) at = latest (mirror m) (line_at (mirror m) (at - 1)).start (at - 1)

abbrev pub terminus_at : Arrival → ℕ → ℕ → Terminus
terminus_at any v at = Node v
terminus_at (matching a) v at = Line (at - 1)

-- What is known of it there.
abbrev pub Standing : Map → ℕ → Arrival → ℕ → ℕ → Type 0
Standing m lines any v at = lines ≤ at
Standing m lines (matching a) v at = (line_at (mirror m) (at - 1)).start ≡ v
