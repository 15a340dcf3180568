-- Ways, and those of least length (paper 01, "What counts as a reading"). Everything here is over model's connected lists.
use Rattle.std.specs.Prelude.{ℕ, ◌≤◌, ◌<◌, ◌≡◌, List, length}
use Rattle.model.specs.Map.{Map}
use Rattle.model.specs.Lines.{line_at, Connected, total, lowest, first_of, last_of}
use Rattle.way_lengths.specs.declared.Terminus.{Terminus}
use Rattle.way_lengths.specs.declared.Terminus.TheVariants.{Line, Node}

-- Where ways begin or end: with a line, or at a node, whatever the line.
abbrev pub line : ℕ → Terminus
line l = Line l

abbrev pub node : ℕ → Terminus
node v = Node v

-- Ways from there may begin with line `l`, and ways there may end with line `l`.
abbrev pub Begins : Map → Terminus → ℕ → Type 0
Begins m (Line f) l = l ≡ f
Begins m (Node v) l = (line_at m l).start ≡ v

abbrev pub Ends : Map → Terminus → ℕ → Type 0
Ends m (Line t) l = l ≡ t
Ends m (Node v) l = (line_at m l).end ≡ v

-- The terminus is one of the map.
abbrev pub Stands : Map → ℕ → Terminus → Type 0
Stands m lines (Line l) = l < lines
Stands m lines (Node v) = v < length m.nodes

-- A way: a connected list of lines of FRC at most `class`, from one terminus to another.
pub record Way (m : Map) (class : ℕ) (from to : Terminus) (ls : List ℕ) : Type 0 where
  pub connected : Connected m ls
  pub starts : Begins m from (first_of ls)
  pub ends : Ends m to (last_of ls)
  pub classes : lowest m ls ≤ class

-- Some way has the length `d`.
pub record Reached (m : Map) (class : ℕ) (from to : Terminus) (d : ℕ) : Type 0 where
  pub list : List ℕ
  pub way : Way m class from to list
  pub sum : total m list ≡ d

-- And none is shorter.
pub record Least (m : Map) (class : ℕ) (from to : Terminus) (d : ℕ) : Type 0 where
  pub some : Reached m class from to d
  pub least : (ls : List ℕ) → Way m class from to ls → d ≤ total m ls

-- Exactly one way has the length `d`: `list`.
pub record OnlyWay (m : Map) (class : ℕ) (from to : Terminus) (d : ℕ) (list : List ℕ) : Type 0 where
  pub way : Way m class from to list
  pub sum : total m list ≡ d
  pub only : (ls : List ℕ) → Way m class from to ls → total m ls ≡ d → ls ≡ list

-- Two ways have the length `d`.
pub record Two (m : Map) (class : ℕ) (from to : Terminus) (d : ℕ) : Type 0 where
  pub one : Reached m class from to d
  pub other : Reached m class from to d
  pub differ : one.list ≡ other.list → ⊥

-- No way is within the limit.
abbrev pub Beyond : Map → ℕ → Terminus → Terminus → ℕ → Type 0
Beyond m class from to limit = (ls : List ℕ) → Way m class from to ls → limit < total m ls

-- `d` is the least length of a way to the target where that is within the limit, and else it is past the limit.
pub record Distance (m : Map) (class : ℕ) (from : Terminus) (limit : ℕ) (to : Terminus) (d : ℕ) : Type 0 where
  pub near : d ≤ limit → Least m class from to d
  pub far : limit < d → Beyond m class from to limit
