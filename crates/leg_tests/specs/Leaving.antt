-- The lists of the lines that leave each node, and what is said of the work area when they are made.
use Rattle.work_area.specs.Area.{queue_from, last_barred_from}
use Rattle.model.specs.Map.{Map}
use Rattle.std.specs.Prelude.{ℕ, ◌+◌, ◌<◌, ◌≡◌, List, length, get_or}
use Rattle.model.specs.Lines.{line_at}
use Rattle.search_cells.specs.Area.{latest}
use Rattle.sole_ways.specs.SoleWays.{Worked}

-- The lists of the lines below `i`: of each node 1 + its last line, from each line 1 + the one below it from the same node, and 0 where there is none.
-- They stand in cells that nothing is promised of but while a search is under way.
pub record Leaving (m : Map) (i : ℕ) (w : List ℕ) : Type 0 where
  pub firsts : (v : ℕ) → v < length m.nodes → get_or w (last_barred_from + v) 0 ≡ latest m v i
  pub nexts : (l : ℕ) → l < i → get_or w (queue_from + l) 0 ≡ latest m (line_at m l).start l

-- They are made, and the work area is ready for searches as before.
pub record Listed (m : Map) (lines i : ℕ) (w v : List ℕ) : Type 0 where
  pub leaving : Leaving m i v
  pub worked : Worked m lines w v
