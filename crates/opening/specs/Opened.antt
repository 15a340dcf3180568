-- What `open_map` answers, of all bytes: the map that they are, held by the work area and ready for searches, or the refusal of the definitions.
use Rattle.std.specs.Prelude.{ℕ, ◌≡◌, List, Result, Ok, Err, length}
use Rattle.model.specs.Refusal.{refusal_of}
use Rattle.model.specs.declared.Refusal.{Refusal}
use Rattle.model.specs.Map.{Map, whole, refused, decode}
use Rattle.buffers.specs.Kept.{Kept}
use Rattle.model.specs.Work.{work_length}
use Rattle.search_cells.specs.Area.{Set}
use Rattle.opening.specs.declared.Opened.{Opened}

-- The bytes are a map, the work area `v` holds it, and searches can begin.
pub record ReadyMap (bytes v : List ℕ) (nodes lines : ℕ) : Type 0 where
  pub map : Map
  pub decodes : decode bytes ≡ whole map
  pub set : Set map lines v
  pub node_count : length map.nodes ≡ nodes

abbrev pub OpenAnswers : List ℕ → List ℕ → Result Opened Refusal → Type 0
OpenAnswers bytes v (Ok o) = ReadyMap bytes v o.nodes o.lines
OpenAnswers bytes v (Err why) = decode bytes ≡ refused (refusal_of why)

-- The work area was `w` and is `v`: behind the numbers that a call uses nothing is changed, after a refusal too.
pub record MapOpened (bytes w v : List ℕ) (r : Result Opened Refusal) : Type 0 where
  pub answers : OpenAnswers bytes v r
  pub kept : Kept 0 work_length w v
