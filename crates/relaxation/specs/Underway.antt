-- A search that is under way.
use Rattle.model.specs.Map.{Map}
use Rattle.model.specs.Reading.{greatest_leg_length}
use Rattle.search_cells.specs.Area.{Mirrored, far, several, key_weight, Chained, Listing, length_to, predecessor, nearest_free, queued, named, Tie, Nearest, line_of}
use Rattle.std.specs.Prelude.{ℕ, ◌+◌, ◌-◌, ◌/◌, ◌≤◌, ◌<◌, ◌≡◌, List, ◌⊎◌, length}
use Rattle.model.specs.Lines.{line_at, Follows}
use Rattle.way_lengths.specs.Ways.{line, Reached}
use Rattle.way_lengths.specs.declared.Terminus.{Terminus}
use Rattle.search_cells.specs.Promises.{Free}

-- No turn from line `l` is banned, and a search has reached it.
pub record FreeReached (m : Map) (lines : ℕ) (w : List ℕ) (l : ℕ) : Type 0 where
  pub line : l < lines
  pub free : Free m l
  pub reached : length_to w l < far

-- Line `l` waits in the queue, from place `place` up to `end`: the search is to go on from it.
abbrev pub Waits : ℕ → ℕ → List ℕ → ℕ → Type 0
Waits place end w l = (i : ℕ) × (place ≤ i) × (i < end) × (line_of (queued w i) ≡ l)

-- What the note `x` at line `j` rests on.
pub record Backed (m : Map) (w : List ℕ) (j x : ℕ) : Type 0 where
  pub one : 0 < x → x < several → Tie m w (x - 1) j
  pub many : several ≤ x → (a : ℕ) × (b : ℕ) × Tie m w a j × Tie m w b j × (a ≡ b → ⊥)

-- The length to line `j` is no more than by way of line `l`, where that is within the limit.
abbrev pub Tight : Map → ℕ → ℕ → List ℕ → ℕ → ℕ → Type 0
Tight m class limit w l j =
    (line_at m j).frc ≤ class → length_to w l + (line_at m j).length ≤ limit → length_to w j ≤ length_to w l + (line_at m j).length

-- `x` is the note `note`, or says several.
abbrev pub Notes : ℕ → ℕ → Type 0
Notes note x = (0 < x) × (x < several → x ≡ note)

-- Line `l` is taken into account at line `j`, in its length and, as `note`, in its note.
pub record Counted (m : Map) (class limit note l j : ℕ) (w : List ℕ) : Type 0 where
  pub tight : Tight m class limit w l j
  pub noted : length_to w j ≤ limit → Tie m w l j → Notes note (predecessor w j)

-- Line `l` is taken into account everywhere.
abbrev pub Settled : Map → ℕ → ℕ → List ℕ → ℕ → Type 0
Settled m class limit w l = (j : ℕ) → Follows m l j → Counted m class limit (l + 1) l j w

-- Each line that is reached is settled, or it waits, or it is free and the nearest free line that ends at the same node waits: that will settle it too.
abbrev pub Standing : Map → ℕ → ℕ → ℕ → ℕ → List ℕ → ℕ → Type 0
Standing m class limit place end w l =
    Settled m class limit w l ⊎ (Waits place end w l ⊎ (Free m l × Waits place end w (named (nearest_free w (line_at m l).end))))

-- A cell of the queue: a line that is reached, and the length to it.
pub record Queued (lines : ℕ) (w : List ℕ) (key : ℕ) : Type 0 where
  pub line : line_of key < lines
  pub found : length_to w (line_of key) ≡ key / key_weight
  pub reached : key / key_weight < far

-- What is searched for.
pub record Task : Type 0 where
  pub map : Map
  pub from : Terminus

abbrev pub task : Map → Terminus → Task
task m from = record { map = m; from = from }

-- The search is under way. The queue waits from place `place` on, in the order of lengths. A length is that of a way within the limit, and no longer than
-- by way of a line that waits: so it is found once and stays.
pub record Underway (q : Task) (lines class limit place count end : ℕ) (w : List ℕ) : Type 0 where
  pub held : Mirrored w lines q.map
  pub chained : Chained w lines q.map
  pub listing : Listing w lines count
  pub small : limit ≤ greatest_leg_length
  pub begun : place ≤ end
  pub room : end ≤ count
  pub ordered : (i k : ℕ) → place ≤ i → i ≤ k → k < end → queued w i ≤ queued w k
  pub queue : (i : ℕ) → place ≤ i → i < end → Queued lines w (queued w i)
  pub within : (l : ℕ) → l < lines → length_to w l < far → length_to w l ≤ limit
  pub real : (l : ℕ) → l < lines → length_to w l < far → Reached q.map class q.from (line l) (length_to w l)
  pub level : (l i : ℕ) → l < lines → length_to w l < far → place ≤ i → i < end → length_to w l ≤ queued w i / key_weight + (line_at q.map l).length
  pub nearest : (v : ℕ) → v < length q.map.nodes → Nearest q.map limit w (FreeReached q.map lines w) v (nearest_free w v)
  pub standing : (l : ℕ) → l < lines → length_to w l < far → Standing q.map class limit place end w l
  pub backed : (j : ℕ) → j < lines → length_to w j < far → Backed q.map w j (predecessor w j)

-- Lengths that are found stay, a note stays or says several unless it was none, and what is new is of the class and past the length `d`.
pub record Grew (m : Map) (lines class d : ℕ) (w v : List ℕ) : Type 0 where
  pub same : (k : ℕ) → k < lines → length_to w k < far → length_to v k ≡ length_to w k
  pub notes : (k : ℕ) → k < lines → length_to w k < far →
      (predecessor v k ≡ predecessor w k) ⊎ ((several ≤ predecessor v k) ⊎ (predecessor w k ≡ 0))
  pub new : (k : ℕ) → k < lines → far ≤ length_to w k → length_to v k < far → ((line_at m k).frc ≤ class) × (d < length_to v k)
