-- What stands in the work area besides the map: the adjacency lists, the list of the lines that a search has
-- reached, and what it has found.
use Rattle.work_area.specs.Area.{line_size, line_place, lengths_from, queue_from, heads_from, next_from, line_numbers, BansHeld, Held}
use Rattle.work_area.specs.Mirror.{mirror_line, mirror}
use Rattle.model.specs.WellFormed.{WellFormed}
use Rattle.model.specs.Work.{work_length}
use Rattle.way_lengths.specs.declared.Terminus.{Terminus}
use Rattle.model.specs.Map.{Map}
use Rattle.model.specs.Reading.{greatest_leg_length}
use Rattle.std.specs.Prelude.{ℕ, zero, suc, ◌+◌, ◌-◌, ◌*◌, ◌/◌, ◌%◌, ◌≤◌, ◌<◌, ◌≡◌, cond, true, List, [], ◌∷◌, ◌⊎◌, length, get_or, eqb}
use Rattle.model.specs.Lines.{line_at, turn_among, Follows}
use Rattle.way_lengths.specs.Ways.{line, Distance}

-- Searches go along the mirrored map. The work area holds the map whose mirror is `m`: each line's numbers are those of the mirrored line.
pub record Mirrored (w : List ℕ) (lines : ℕ) (m : Map) : Type 0 where
  pub full : work_length ≤ length w
  pub formed : WellFormed m
  pub line_count : length m.lines ≡ lines
  pub line_held : (i k : ℕ) → i < lines → k < line_size → get_or w (line_place i + k) 0 ≡ get_or (line_numbers (mirror_line (line_at m i))) k 0
  pub bans_held : BansHeld w lines m.bans

-- The cells. For each line the length found to it (past the limit of the search where no way is within it) and, below `note_weight`, its predecessor:
-- 1 + the line, several, or 0.
abbrev pub note_weight : ℕ
note_weight = 2_048

-- No length in such a cell is as great.
abbrev pub note_limit : ℕ
note_limit = 2_097_152

abbrev pub length_to : List ℕ → ℕ → ℕ
length_to w l = get_or w (lengths_from + l) 0 / note_weight

abbrev pub predecessor : List ℕ → ℕ → ℕ
predecessor w l = get_or w (lengths_from + l) 0 % note_weight

-- For each node the first line of its adjacency list, and for each line the next.
abbrev pub list_weight : ℕ
list_weight = 2_048

abbrev pub first_leaving : List ℕ → ℕ → ℕ
first_leaving w v = get_or w (heads_from + v) 0 % list_weight

abbrev pub next_leaving : List ℕ → ℕ → ℕ
next_leaving w l = get_or w (next_from + l) 0 % list_weight

-- In the cells of the next lines stands the list of the lines that a search has reached, times `list_weight`: 1 + the line at place `i`, or 0.
abbrev pub listed : List ℕ → ℕ → ℕ
listed w i = get_or w (next_from + i) 0 / list_weight % list_weight

-- And above that, for line `j`, a line that marks it: the turn from that one into line `j` is banned. No line follows itself, so a line that marks itself
-- says nothing.
abbrev pub mark_weight : ℕ
mark_weight = 4_194_304

abbrev pub marked : List ℕ → ℕ → ℕ
marked w j = get_or w (next_from + j) 0 / mark_weight

abbrev pub Marked : Map → ℕ → List ℕ → Type 0
Marked m lines w = (j : ℕ) → j < lines → (marked w j ≡ j) ⊎ (turn_among m.bans (marked w j) j ≡ true)

-- In the cells of the first lines stands, in the same way, the nearest of the free lines that end at the node, while a search is under way.
abbrev pub nearest_free : List ℕ → ℕ → ℕ
nearest_free w v = get_or w (heads_from + v) 0 / list_weight

-- The queue: of each line its key, the length to it times `key_weight` and then the line, from the last one down. So of lines with the same length the last
-- comes first: as the adjacency lists have them.
abbrev pub key_weight : ℕ
key_weight = 1_024

abbrev pub key_of : ℕ → ℕ → ℕ
key_of length l = length * key_weight + (key_weight - 1 - l)

abbrev pub line_of : ℕ → ℕ
line_of key = key_weight - 1 - key % key_weight

abbrev pub queued : List ℕ → ℕ → ℕ
queued w i = get_or w (queue_from + i) 0

-- The length to a line that is not reached: one past the greatest limit.
abbrev pub far : ℕ
far = greatest_leg_length + 1

-- What a cell says instead of 1 + a line: that there are several.
abbrev pub several : ℕ
several = 1_025

-- 1 + the greatest line below `i` that starts at node `v`, or 0.
abbrev pub latest : Map → ℕ → ℕ → ℕ
latest m v zero = 0
latest m v (suc i) = cond (eqb (line_at m i).start v) (suc i) (latest m v i)

-- The sum of the numbers below `i`, and how many lines are reached.
abbrev pub sum : (ℕ → ℕ) → ℕ → ℕ
sum f zero = 0
sum f (suc i) = sum f i + f i

abbrev pub reached : List ℕ → ℕ → ℕ
reached w lines = sum (λ l. 1 - length_to w l / far) lines

-- The list has so many lines. They are those that are reached, each once.
pub record Listing (w : List ℕ) (lines count : ℕ) : Type 0 where
  pub some : (i : ℕ) → i < count → (0 < listed w i) × (listed w i ≤ lines)
  pub none : (i : ℕ) → count ≤ i → i < lines → listed w i ≡ 0
  pub every : (l : ℕ) → l < lines → length_to w l < far → (i : ℕ) × (i < count) × (listed w i ≡ l + 1)
  pub only : (i : ℕ) → i < count → length_to w (listed w i - 1) < far
  pub once : (i k : ℕ) → i < count → k < count → listed w i ≡ listed w k → i ≡ k
  pub room : count ≤ reached w lines

-- Line `l`, one of so many, is at one of the first `i` places of the list.
pub record Among (w : List ℕ) (lines i l : ℕ) : Type 0 where
  pub line : l < lines
  pub place : ℕ
  pub below : place < i
  pub here : listed w place ≡ l + 1

-- The adjacency lists: of each node its last line, and from each line to the one below it from the same node.
-- Beside them stands the list of the lines that the last search reached, so that the next can begin without a look at every line. Only where one of
-- these ends has a node a nearest free line. What is marked is so whatever the search.
pub record Chained (w : List ℕ) (lines : ℕ) (m : Map) : Type 0 where
  pub heads : (v : ℕ) → v < length m.nodes → first_leaving w v ≡ latest m v lines
  pub nexts : (l : ℕ) → l < lines → next_leaving w l ≡ latest m (line_at m l).start l
  pub listing : (count : ℕ) × Listing w lines count
  pub bare : (v : ℕ) → v < length m.nodes → 0 < nearest_free w v → (l : ℕ) × (l < lines) × (length_to w l < far) × ((line_at m l).end ≡ v)
  pub marks : Marked m lines w

-- Line `l` stands before line `j` on a way that is as long as the length found to `j`.
pub record Tie (m : Map) (w : List ℕ) (l j : ℕ) : Type 0 where
  pub known : l < length m.lines
  pub follows : Follows m l j
  pub equal : length_to w l + (line_at m j).length ≡ length_to w j

-- What `x` says of the lines below `i` that tie with line `j`: 0 for none, 1 + the only one, or several.
pub record Predecessors (m : Map) (w : List ℕ) (i j x : ℕ) : Type 0 where
  pub none : x ≡ 0 → (l : ℕ) → l < i → Tie m w l j → ⊥
  pub tie : 0 < x → x < several → Tie m w (x - 1) j
  pub one : 0 < x → x < several → (l : ℕ) → l < i → Tie m w l j → l ≡ x - 1
  pub below : x < several → x ≤ i
  pub many : several ≤ x → (a : ℕ) × (b : ℕ) × Tie m w a j × Tie m w b j × (a ≡ b → ⊥)

-- That stands in the area for every line within the limit.
abbrev pub Tied : Map → ℕ → ℕ → List ℕ → Type 0
Tied m lines limit w = (j : ℕ) → j < lines → length_to w j ≤ limit → Predecessors m w lines j (predecessor w j)

-- The `count` lines from line `first` on, on the map itself: behind each stands the one that is before it on the mirrored map.
abbrev pub lines_from : List ℕ → ℕ → ℕ → List ℕ
lines_from w first zero = []
lines_from w first (suc count) = first ∷ lines_from w (predecessor w first - 1) count

-- A search from there is done: the length to every line, and its predecessor.
pub record Searched (m : Map) (lines class : ℕ) (from : Terminus) (limit : ℕ) (w : List ℕ) : Type 0 where
  pub held : Mirrored w lines m
  pub small : limit ≤ greatest_leg_length
  pub found : (l : ℕ) → l < lines → Distance m class from limit (line l) (length_to w l)
  pub tied : Tied m lines limit w

-- The line that the cell of a node names: the cell is 1 + the line where it alone is nearest, and 1,024 more where another is as near.
abbrev pub named : ℕ → ℕ
named x = (x - 1) % key_weight

-- What `x` says of the lines with the property `P` that end at node `v`: 0 where none is within the limit, or which of them is nearest, and
-- whether it alone is.
pub record Nearest (m : Map) (limit : ℕ) (w : List ℕ) (P : ℕ → Type 0) (v x : ℕ) : Type 0 where
  pub none : x ≡ 0 → (l : ℕ) → P l → (line_at m l).end ≡ v → limit < length_to w l
  pub holds : 0 < x → P (named x)
  pub ends : 0 < x → (line_at m (named x)).end ≡ v
  pub near : 0 < x → length_to w (named x) ≤ limit
  pub least : 0 < x → (l : ℕ) → P l → (line_at m l).end ≡ v → length_to w (named x) ≤ length_to w l
  pub one : 0 < x → x < several → (l : ℕ) → P l → (line_at m l).end ≡ v → length_to w l ≡ length_to w (named x) → l ≡ named x
  pub many : several ≤ x → (l : ℕ) × P l × ((line_at m l).end ≡ v) × (length_to w l ≡ length_to w (named x)) × (l ≡ named x → ⊥)

-- The cell `x` of a node, updated for line `l`, which ends there: that is past the limit or farther than the nearest; or nearer; or as near.
pub data NearerBy (limit : ℕ) (w : List ℕ) (x l : ℕ) : ℕ → Type 0 where
  farther : {r : ℕ} → r ≡ x → (limit < length_to w l) ⊎ ((0 < x) × (length_to w (named x) < length_to w l)) → NearerBy limit w x l r
  nearest : {r : ℕ} → r ≡ l + 1 → length_to w l ≤ limit → (0 < x → length_to w l < length_to w (named x)) → NearerBy limit w x l r
  alike : {r : ℕ} → r ≡ named x + several → length_to w l ≤ limit → 0 < x → length_to w l ≡ length_to w (named x) → NearerBy limit w x l r

-- The work area is ready for searches: it holds the map, and the adjacency lists of the mirrored map are made.
pub record Set (m : Map) (lines : ℕ) (w : List ℕ) : Type 0 where
  pub held : Held w lines m
  pub chained : Chained w lines (mirror m)
