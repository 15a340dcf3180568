-- What the functions of the adjacency lists, of the list of reached lines and of the queue promise.
use Rattle.work_area.specs.Area.{search_from, queue_from, heads_from, next_from, last_barred_from, ban_chain}
use Rattle.model.specs.Map.{greatest_line_count, greatest_node_count, Map}
use Rattle.search_cells.specs.Area.{far, Chained, Listing, length_to, predecessor, first_leaving, next_leaving, listed, marked, nearest_free, queued, NearerBy}
use Rattle.std.specs.Prelude.{ℕ, ◌+◌, ◌-◌, ◌≤◌, ◌<◌, ◌≡◌, Bool, true, List, ◌≢◌, length, get_or, eqb}
use Rattle.model.specs.Lines.{line_at}
use Rattle.buffers.specs.Kept.{Kept}

-- The adjacency lists of the lines below `i` are made, no such line is reached, and of the area only the cells of searches but the last
-- of them are changed.
pub record Linked (w : List ℕ) (i : ℕ) (m : Map) (v : List ℕ) : Type 0 where
  pub chained : Chained v i m
  pub kept : Kept search_from last_barred_from w v

-- No turn from line `l` is banned.
abbrev pub Free : Map → ℕ → Type 0
Free m l = ban_chain m.bans l ≡ 0

-- What the last search found is reset: no line is reached.
pub record Reset (m : Map) (lines : ℕ) (w v : List ℕ) : Type 0 where
  pub chained : Chained v lines m
  pub empty : Listing v lines 0
  pub all : (l : ℕ) → l < lines → far ≤ length_to v l
  pub bare : (a : ℕ) → a < length m.nodes → nearest_free v a ≡ 0
  pub kept : Kept search_from last_barred_from w v

-- The length to line `j` is `x` now, with the note `note`, and it is the last on the list.
pub record Put (j note x count : ℕ) (w v : List ℕ) : Type 0 where
  pub found : length_to v j ≡ x
  pub before : predecessor v j ≡ note
  pub others : (k : ℕ) → k < greatest_line_count → k ≢ j → (length_to v k ≡ length_to w k) × (predecessor v k ≡ predecessor w k)
  pub nexts : (k : ℕ) → k < greatest_line_count → (next_leaving v k ≡ next_leaving w k) × (marked v k ≡ marked w k)
  pub list : (i : ℕ) → i < greatest_line_count → i ≢ count → listed v i ≡ listed w i
  pub last : listed v count ≡ j + 1
  pub rest : (a : ℕ) → queue_from ≤ a → a < next_from → get_or v a 0 ≡ get_or w a 0
  pub kept : Kept search_from last_barred_from w v

-- Line `j` is sent, or not, and the nearest free line of the node where it ends is updated where it is free.
pub record Sent (m : Map) (limit j : ℕ) (w v : List ℕ) (r : Bool) : Type 0 where
  pub heads : (a : ℕ) → a < greatest_node_count → first_leaving v a ≡ first_leaving w a
  pub others : (a : ℕ) → a < greatest_node_count → a ≢ (line_at m j).end → nearest_free v a ≡ nearest_free w a
  pub free : Free m j → NearerBy limit w (nearest_free w (line_at m j).end) j (nearest_free v (line_at m j).end) × (r ≡ eqb (nearest_free v (line_at m j).end) (j + 1))
  pub barred : (Free m j → ⊥) → (nearest_free v (line_at m j).end ≡ nearest_free w (line_at m j).end) × (r ≡ true)
  pub kept : Kept heads_from next_from w v

-- The key is put into the queue, behind place `place`, and those that are greater are moved by one.
pub record Inserted (place end key : ℕ) (w v : List ℕ) : Type 0 where
  pub at : ℕ
  pub behind : place < at
  pub inside : at ≤ end
  pub here : queued v at ≡ key
  pub before : (i : ℕ) → i < at → queued v i ≡ queued w i
  pub moved : (i : ℕ) → at ≤ i → i < end → queued v (i + 1) ≡ queued w i
  pub least : queued w (at - 1) ≤ key
  pub greater : (i : ℕ) → at ≤ i → i < end → key < queued w i
  pub kept : Kept (queue_from + place + 1) (queue_from + end + 1) w v
