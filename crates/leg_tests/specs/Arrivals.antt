-- The lists of the lines that arrive at the nodes of a stretch while they are made.
use Rattle.std.specs.Prelude.{ℕ, ◌+◌, ◌-◌, ◌≤◌, ◌<◌, ◌≡◌, List, get_or}
use Rattle.model.specs.Map.{Map}
use Rattle.model.specs.Lines.{line_at}
use Rattle.work_area.specs.Mirror.{mirror}
use Rattle.search_cells.specs.Area.{latest}
use Rattle.buffers.specs.Kept.{Kept}

-- A number for each position of a stretch, and one for each line.
abbrev pub arrivals_length : ℕ
arrivals_length = 1_089

-- Those of the first positions are made, and only they are changed.
pub record Firsts (m : Map) (lines : ℕ) (s : List ℕ) (n : ℕ) (a b : List ℕ) : Type 0 where
  pub firsts : (j : ℕ) → 0 < j → j ≤ n → get_or b j 0 ≡ latest (mirror m) (line_at m (get_or s (j - 1) 0)).end lines
  pub kept : Kept 0 (n + 1) a b

-- Those of the first lines are made, and only they are changed.
pub record Nexts (m : Map) (lines n : ℕ) (a b : List ℕ) : Type 0 where
  pub nexts : (l : ℕ) → l < n → get_or b (65 + l) 0 ≡ latest (mirror m) (line_at (mirror m) l).start l
  pub kept : Kept 65 (65 + n) a b
