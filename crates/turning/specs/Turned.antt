-- The map in the work area, turned round.
use Rattle.std.specs.Prelude.{ℕ, ◌<◌, ◌≡◌, List}
use Rattle.model.specs.Map.{Map}
use Rattle.buffers.specs.Kept.{Kept}
use Rattle.work_area.specs.Area.{lines_from, line_place, bans_to}
use Rattle.work_area.specs.Held.{held_line}
use Rattle.work_area.specs.Mirror.{mirror_line, mirror}
use Rattle.search_cells.specs.Area.{Set}

-- Each of so many lines stands there the other way round, and nothing else is changed.
pub record EndsSwapped (lines : ℕ) (w v : List ℕ) : Type 0 where
  pub turned : (l : ℕ) → l < lines → held_line v l ≡ mirror_line (held_line w l)
  pub kept : Kept lines_from (line_place lines) w v

-- The area is ready for searches with the mirrored map in place of the map `m`. Nothing before the lines and behind the banned turns is changed.
pub record Turned (m : Map) (lines : ℕ) (w v : List ℕ) : Type 0 where
  pub set : Set (mirror m) lines v
  pub kept : Kept lines_from bans_to w v
