-- What `search` promises.
use Rattle.work_area.specs.Area.{search_from, search_to}
use Rattle.model.specs.Map.{Map}
use Rattle.search_cells.specs.Area.{Chained, Searched}
use Rattle.std.specs.Prelude.{ℕ, List}
use Rattle.buffers.specs.Kept.{Kept}
use Rattle.way_lengths.specs.declared.Terminus.{Terminus}

-- A search from there is done, and of the area only the cells of searches are changed: the next can begin.
pub record Finished (m : Map) (lines class : ℕ) (from : Terminus) (limit : ℕ) (w v : List ℕ) : Type 0 where
  pub searched : Searched m lines class from limit v
  pub chained : Chained v lines m
  pub kept : Kept search_from search_to w v
