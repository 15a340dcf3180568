-- What `read_map` answers, of all bytes: the map that they are, held by the work area, or the row of the table that refuses them.
use Rattle.work_area.specs.Area.{Holds}
use Rattle.model.specs.Work.{work_length}
use Rattle.model.specs.Map.{Map, whole, refused, decode}
use Rattle.std.specs.Prelude.{ℕ, ◌≡◌, List, Result, Ok, Err}
use Rattle.model.specs.Refusal.{refusal_of}
use Rattle.model.specs.declared.Refusal.{Refusal}
use Rattle.buffers.specs.Kept.{Kept}
use Rattle.depot_map.specs.declared.Counts.{Counts}

-- The bytes are a map, and the work area `v` holds it.
pub record WholeMap (bytes v : List ℕ) (nodes lines : ℕ) : Type 0 where
  pub map : Map
  pub decodes : decode bytes ≡ whole map
  pub held : Holds v nodes lines map

abbrev pub MapAnswers : List ℕ → List ℕ → Result Counts Refusal → Type 0
MapAnswers bytes v (Ok n) = WholeMap bytes v n.nodes n.lines
MapAnswers bytes v (Err why) = decode bytes ≡ refused (refusal_of why)

-- The work area was `w` and is `v`: after a refusal too, only the numbers that a call uses are changed.
pub record MapIsRead (bytes w v : List ℕ) (r : Result Counts Refusal) : Type 0 where
  pub answers : MapAnswers bytes v r
  pub kept : Kept 0 work_length w v
