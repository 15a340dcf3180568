-- The work area: where everything stands in it, and what it is to hold a map. src/lib.rt has the same places for the code; no other file has an address.
use Rattle.std.specs.Prelude.{ℕ, zero, suc, ◌+◌, ◌*◌, ◌≤◌, ◌<◌, ◌≡◌, cond, List, [], ◌∷◌, length, get_or, eqb}
use Rattle.model.specs.Map.{Node, Line, Turn, Map, greatest_node_count, greatest_line_count, greatest_ban_count}
use Rattle.model.specs.Lines.{node_at, line_at}
use Rattle.model.specs.WellFormed.{WellFormed}
use Rattle.model.specs.Work.{work_length}
use Rattle.work_area.specs.Mirror.{mirror_turns}

-- ---- the map: its nodes, and then its lines

-- How many numbers a node has, and where those of node `i` start; which of them is which.
abbrev pub node_size : ℕ
node_size = 2

abbrev pub node_place : ℕ → ℕ
node_place i = node_size * i

abbrev pub latitude : ℕ
latitude = 1

-- How many numbers a line has, and where those of line `i` start; which of them is which.
abbrev pub line_size : ℕ
line_size = 7

abbrev pub lines_from : ℕ
lines_from = node_size * greatest_node_count

abbrev pub line_place : ℕ → ℕ
line_place i = lines_from + line_size * i

abbrev pub start_node : ℕ
start_node = 0

abbrev pub end_node : ℕ
end_node = 1

abbrev pub line_length : ℕ
line_length = 2

abbrev pub line_frc : ℕ
line_frc = 3

abbrev pub line_fow : ℕ
line_fow = 4

abbrev pub sector_out : ℕ
sector_out = 5

abbrev pub sector_back : ℕ
sector_back = 6

-- ---- behind the map: the cells of searches

-- For each line the length found to it and its predecessor; the lines that a search goes on from; for each node the first line of its adjacency
-- list, and for each line the next of that list; for each node what a search keeps there for itself.
abbrev pub search_from : ℕ
search_from = lines_from + line_size * greatest_line_count

abbrev pub lengths_from : ℕ
lengths_from = search_from

abbrev pub queue_from : ℕ
queue_from = lengths_from + greatest_line_count

abbrev pub heads_from : ℕ
heads_from = queue_from + greatest_line_count

abbrev pub next_from : ℕ
next_from = heads_from + greatest_node_count

abbrev pub last_barred_from : ℕ
last_barred_from = next_from + greatest_line_count

abbrev pub search_to : ℕ
search_to = last_barred_from + greatest_node_count

-- ---- behind the search: the banned turns (W1)

-- They stand there mirrored, as turns of the mirrored map: each once, however often the map lists it. For each line 1 + the last banned turn from it,
-- or 0. For each banned turn its second line, and 1 + the one before it from the same first line, or 0. So the turns from one line are a chain.
abbrev pub bans_from : ℕ
bans_from = search_to

abbrev pub ban_head : ℕ → ℕ
ban_head l = bans_from + l

abbrev pub seconds_from : ℕ
seconds_from = bans_from + greatest_line_count

abbrev pub ban_second : ℕ → ℕ
ban_second i = seconds_from + i

abbrev pub earlier_from : ℕ
earlier_from = seconds_from + greatest_ban_count

abbrev pub ban_earlier : ℕ → ℕ
ban_earlier i = earlier_from + i

abbrev pub bans_to : ℕ
bans_to = earlier_from + greatest_ban_count

-- ---- the cells of searches while a map is read: the test of equal codes

-- For each node its two codes and the node before it in its bucket; for each bucket its last node.
abbrev pub buckets : ℕ
buckets = 512

abbrev pub codes_from : ℕ
codes_from = search_from

abbrev pub chains_from : ℕ
chains_from = codes_from + node_size * greatest_node_count

abbrev pub buckets_from : ℕ
buckets_from = chains_from + greatest_node_count

abbrev pub codes_to : ℕ
codes_to = buckets_from + buckets

-- ---- a map that is held

-- The numbers of a node and of a line, in the order of the map's bytes; a line's sectors stand where the map has the steps that they are found from (W3).
abbrev pub node_numbers : Node → List ℕ
node_numbers a = a.lon ∷ a.lat ∷ []

abbrev pub line_numbers : Line → List ℕ
line_numbers l = l.start ∷ l.end ∷ l.length ∷ l.frc ∷ l.fow ∷ l.out ∷ l.back ∷ []

abbrev pub ban_at : List Turn → ℕ → Turn
ban_at bans i = get_or bans i (record { first = 0; second = 0 })

-- 1 + the last of the first `i` turns that is one from line `l`, or 0.
abbrev pub latest_ban : List Turn → ℕ → ℕ → ℕ
latest_ban bans l zero = 0
latest_ban bans l (suc i) = cond (eqb (ban_at bans i).first l) (suc i) (latest_ban bans l i)

-- Where the chain of line `l` starts.
abbrev pub ban_chain : List Turn → ℕ → ℕ
ban_chain bans l = latest_ban bans l (length bans)

-- The work area `w` holds these banned turns of a map of so many lines.
pub record BansHeld (w : List ℕ) (lines : ℕ) (bans : List Turn) : Type 0 where
  pub few : length bans ≤ greatest_ban_count
  pub heads : (l : ℕ) → l < lines → get_or w (ban_head l) 0 ≡ ban_chain bans l
  pub seconds : (i : ℕ) → i < length bans → get_or w (ban_second i) 0 ≡ (ban_at bans i).second
  pub earlier : (i : ℕ) → i < length bans → get_or w (ban_earlier i) 0 ≡ latest_ban bans (ban_at bans i).first i

-- The work area `w` holds the well-formed map `m`, which has so many nodes and lines.
pub record Holds (w : List ℕ) (nodes lines : ℕ) (m : Map) : Type 0 where
  pub full : work_length ≤ length w
  pub formed : WellFormed m
  pub node_count : length m.nodes ≡ nodes
  pub line_count : length m.lines ≡ lines
  pub node_held : (i k : ℕ) → i < nodes → k < node_size → get_or w (node_place i + k) 0 ≡ get_or (node_numbers (node_at m i)) k 0
  pub line_held : (i k : ℕ) → i < lines → k < line_size → get_or w (line_place i + k) 0 ≡ get_or (line_numbers (line_at m i)) k 0
  pub bans_held : BansHeld w lines (mirror_turns m.bans)

-- The work area holds the map `m`, which has so many lines.
abbrev pub Held : List ℕ → ℕ → Map → Type 0
Held w lines m = Holds w (length m.nodes) lines m
