-- What is asked of a finished search.
use Rattle.model.specs.Map.{Map}
use Rattle.model.specs.Lines.{last_of}
use Rattle.way_lengths.specs.declared.Terminus.{Terminus}
use Rattle.search_cells.specs.Area.{lines_from}
use Rattle.std.specs.Prelude.{ℕ, ◌≤◌, ◌<◌, ◌≡◌, List}
use Rattle.way_lengths.specs.Ways.{line, Least, OnlyWay, Two, Beyond}
use Rattle.ways.specs.declared.Ways.{Ways}
use Rattle.ways.specs.declared.Ways.TheVariants.{Nothing, Several, One}

-- Several ways within the limit are of least length.
pub record SeveralLeast (m : Map) (class first : ℕ) (to : Terminus) (limit length : ℕ) : Type 0 where
  pub within : length ≤ limit
  pub least : Least m class (line first) to length
  pub two : Two m class (line first) to length

-- Exactly one is: that of the lines `list`.
pub record OneLeast (m : Map) (class first : ℕ) (to : Terminus) (limit length : ℕ) (list : List ℕ) : Type 0 where
  pub within : length ≤ limit
  pub least : Least m class (line first) to length
  pub only : OnlyWay m class (line first) to length list

-- `One last length count`: the way has `count` lines, up to line `last`, and they are those from line `first` on in the work area.
abbrev pub Told : Map → ℕ → ℕ → ℕ → Terminus → ℕ → List ℕ → Ways → Type 0
Told m lines class first to limit w Nothing = Beyond m class (line first) to limit
Told m lines class first to limit w (Several length) = SeveralLeast m class first to limit length
Told m lines class first to limit w (One last length count) =
    OneLeast m class first to limit length (lines_from w first count) × (last_of (lines_from w first count) ≡ last) × (0 < count) × (count ≤ lines)
