-- Sole ways: legs of a stretch such that no other way from their first line to where they end is as short (paper 01, "What counts as a reading").
-- The work area holds a map `m`, and searches go along its mirror. The stretch is one of the mirror.
use Rattle.work_area.specs.Area.{search_from, search_to}
use Rattle.work_area.specs.Mirror.{mirror}
use Rattle.model.specs.Map.{Map}
use Rattle.model.specs.Reading.{greatest_leg_length}
use Rattle.std.specs.Prelude.{ℕ, ◌+◌, ◌*◌, ◌-◌, ◌≤◌, ◌<◌, max, ◌≡◌, cond, false, ◌≢◌, List, length, get_or, eqb, Option, IfSome}
use Rattle.std.proofs.Math.Seq.{slice}
use Rattle.std.specs.Option.{IsSomeAnd}
use Rattle.model.specs.Lines.{line_at, Connected, total, lowest, first_of}
use Rattle.model.specs.LegTests.{turn}
use Rattle.buffers.specs.Decides.{Decides}
use Rattle.buffers.specs.Kept.{Kept}
use Rattle.way_lengths.specs.declared.Terminus.{Terminus}
use Rattle.way_lengths.specs.Ways.{line, node, Way, OnlyWay}
use Rattle.search_cells.specs.Area.{Searched, Set, length_to, latest}
use Rattle.stretches.specs.Known.{Known}
use Rattle.sole_ways.specs.declared.part.Part.{Part}
use Rattle.sole_ways.specs.declared.ahead.Along.{Along}
use Rattle.sole_ways.specs.declared.test.SoleTest.{SoleTest}
use Rattle.sole_ways.specs.declared.wall.Wall.{Wall}
use Rattle.model.specs.Lines as model

-- The number of a leg in a table: number 65 × i + j is for the leg from position `i` to position `j`.
abbrev pub mark : List ℕ → ℕ → ℕ → ℕ
mark table i j = get_or table (65 * i + j) 0

-- A number of a table answers a question: it is 1 where the answer is yes.
abbrev pub Marks : Type 0 → ℕ → Type 0
Marks P x = Decides P (eqb x 1)

-- Of the ways of a class from the first of some lines to a terminus, only these lines are no longer than they are.
pub record SoleUnder (m : Map) (class : ℕ) (ls : List ℕ) (to : Terminus) : Type 0 where
  pub only : (other : List ℕ) → Way m class (line (first_of ls)) to other → total m other ≤ total m ls → other ≡ ls

-- Of the ways of their own classes.
abbrev pub SoleWay : Map → List ℕ → Terminus → Type 0
SoleWay m ls to = SoleUnder m (lowest m ls) ls to

-- The terminus of the legs to position `j`: the node there, whatever the line; at the last position the last line.
abbrev pub own_end : Map → List ℕ → ℕ → Terminus
own_end m s j = cond (eqb j (length s)) (line (get_or s (j - 1) 0)) (node (line_at m (get_or s (j - 1) 0)).end)

-- The leg from `i` to `j` is no longer than a leg can be, and a sole way.
pub record SoleLeg (m : Map) (s : List ℕ) (i j : ℕ) : Type 0 where
  pub within : total m (slice i j s) ≤ greatest_leg_length
  pub sole : SoleWay m (slice i j s) (own_end m s j)

-- ---- a part of a stretch

-- The lines from one position to another have this lowest class and length.
pub record Measures (m : Map) (s : List ℕ) (p : Part) : Type 0 where
  pub ordered : p.from ≤ p.to
  pub inside : p.to ≤ length s
  pub classes : p.class ≡ lowest m (slice p.from p.to s)
  pub sum : p.length ≡ total m (slice p.from p.to s)

-- The part from a position that has no line yet.
abbrev pub none_from : ℕ → Part
none_from i = record { from = i; to = i; class = 0; length = 0 }

-- A part with one line more.
pub record OneMore (p r : Part) : Type 0 where
  pub from : r.from ≡ p.from
  pub to : r.to ≡ p.to + 1
  pub class : p.class ≤ r.class
  pub length : p.length ≤ r.length

-- ---- the search for a row of legs

-- The work area is ready for searches as before, and only its part for searches is changed.
pub record Worked (m : Map) (lines : ℕ) (w v : List ℕ) : Type 0 where
  pub set : Set m lines v
  pub kept : Kept search_from search_to w v

-- A search from the first line of the legs from position `i` is done, and up to position `to` the stretch's lines are the only way to the last of them of
-- the length found.
pub record Follows (m : Map) (lines : ℕ) (s : List ℕ) (i : ℕ) (w : List ℕ) (r : Along) : Type 0 where
  pub searched : Searched (mirror m) lines r.class (line (get_or s i 0)) r.limit w
  pub after : i < r.to
  pub inside : r.to ≤ length s
  pub near : length_to w (get_or s (r.to - 1) 0) ≤ r.limit
  pub only : OnlyWay (mirror m) r.class (line (get_or s i 0)) (line (get_or s (r.to - 1) 0)) (length_to w (get_or s (r.to - 1) 0)) (slice i r.to s)

-- The same where some search is done for this row.
abbrev pub FollowsIf : Map → ℕ → List ℕ → ℕ → List ℕ → Option Along → Type 0
FollowsIf m lines s i w r = IfSome r (λ along. Follows m lines s i w along)

-- It is gone along no further than to a position.
abbrev pub EndsBy : Option Along → ℕ → Type 0
EndsBy r to = IfSome r (λ along. along.to ≤ to)

-- It serves a part: it went over lines of its class, as far as it is long.
pub record Serves (p : Part) (r : Along) : Type 0 where
  pub classes : p.class ≤ r.class
  pub limit : p.length ≤ r.limit

-- The part as a leg under test: it has a line at least, and is no longer than a leg can be.
pub record OnTrial (m : Map) (lines : ℕ) (s : List ℕ) (p : Part) : Type 0 where
  pub known : Known lines s
  pub connected : Connected (mirror m) s
  pub measured : Measures (mirror m) s p
  pub some : p.from < p.to
  pub within : p.length ≤ greatest_leg_length

-- Searched for a part, under its class, or under a greater one up to `most`.
pub record SearchedFor (m : Map) (lines : ℕ) (s : List ℕ) (p : Part) (most : ℕ) (w v : List ℕ) (r : Along) : Type 0 where
  pub follows : Follows m lines s p.from v r
  pub serves : Serves p r
  pub few : r.class ≤ max p.class most
  pub start : r.to ≤ p.to
  pub worked : Worked m lines w v

-- A search that serves a part is done.
pub record Served (m : Map) (lines : ℕ) (s : List ℕ) (p : Part) (w v : List ℕ) (r : Along) : Type 0 where
  pub follows : Follows m lines s p.from v r
  pub serves : Serves p r
  pub start : r.to ≤ p.to
  pub worked : Worked m lines w v

-- The only way to the lines before position `to` is gone along up to position `r`: to `to`, or to where another way is as short.
pub record Advanced (m : Map) (lines : ℕ) (s : List ℕ) (i to : ℕ) (w : List ℕ) (before : Along) (r : ℕ) : Type 0 where
  pub after : i < r
  pub inside : r ≤ to
  pub near : length_to w (get_or s (r - 1) 0) ≤ before.limit
  pub only : OnlyWay (mirror m) before.class (line (get_or s i 0)) (line (get_or s (r - 1) 0)) (length_to w (get_or s (r - 1) 0)) (slice i r s)
  pub broken : r < to → SoleUnder (mirror m) before.class (slice i (r + 1) s) (line (get_or s r 0)) → ⊥

-- ---- lines that arrive

-- Lists of the lines that arrive at the nodes of a stretch: for each position 1 + the first, and from each line 1 + the next, or 0.
pub record Arriving (m : Map) (lines : ℕ) (s : List ℕ) (arrivals : List ℕ) : Type 0 where
  pub size : length arrivals ≡ 1_089
  pub firsts : (j : ℕ) → 0 < j → j ≤ length s → get_or arrivals j 0 ≡ latest m (line_at (mirror m) (get_or s (j - 1) 0)).end lines
  pub nexts : (l : ℕ) → l < lines → get_or arrivals (65 + l) 0 ≡ latest m (line_at m l).start l

-- Another line that ends where line `own` does and that is as near.
pub record Rival (m : Map) (lines own : ℕ) (w : List ℕ) : Type 0 where
  pub rival : ℕ
  pub known : rival < lines
  pub differs : rival ≢ own
  pub ends : (line_at (mirror m) rival).end ≡ (line_at (mirror m) own).end
  pub near : length_to w rival ≤ length_to w own

-- ---- one leg

-- The test of a leg after a search that serves it, among the ways that this went along.
pub record Looked (m : Map) (lines : ℕ) (s : List ℕ) (p : Part) (w : List ℕ) (before : Along) (r : SoleTest) : Type 0 where
  pub says : Decides (SoleUnder (mirror m) before.class (slice p.from p.to s) (own_end (mirror m) s p.to)) r.sole
  pub class : r.along.class ≡ before.class
  pub follows : Follows m lines s p.from w r.along
  pub start : r.along.to ≤ p.to
  pub broken : r.along.to < p.to → SoleUnder (mirror m) before.class (slice p.from (r.along.to + 1) s) (line (get_or s r.along.to 0)) → ⊥

-- The test of a leg, under its own class or a greater one: where it is not sole the class is its own, and where the way breaks before its last line the row ends.
pub record LegTested (m : Map) (lines : ℕ) (s : List ℕ) (p : Part) (w v : List ℕ) (r : SoleTest) : Type 0 where
  pub says : Decides (SoleWay (mirror m) (slice p.from p.to s) (own_end (mirror m) s p.to)) r.sole
  pub follows : Follows m lines s p.from v r.along
  pub start : r.along.to ≤ p.to
  pub broken : r.sole ≡ false → r.along.to < p.to → SoleWay (mirror m) (slice p.from p.to s) (line (get_or s (p.to - 1) 0)) → ⊥
  pub worked : Worked m lines w v

-- ---- walls

-- Another line than the stretch's own may stand before that at position `to`, and is as near.
pub record Joins (m : Map) (lines : ℕ) (s : List ℕ) (to : ℕ) (w : List ℕ) (last : ℕ) : Type 0 where
  pub known : last < lines
  pub follows : model.Follows (mirror m) last (get_or s to 0)
  pub differs : last ≢ get_or s (to - 1) 0
  pub near : length_to w last ≤ length_to w (get_or s (to - 1) 0)

-- From the line at position `from` some way comes to such a line, and is no longer than the stretch up to position `to`.
pub record Walled (m : Map) (s : List ℕ) (wall : Wall) : Type 0 where
  pub ordered : wall.from < wall.to
  pub inside : wall.to < length s
  pub last : ℕ
  pub other : List ℕ
  pub way : Way m wall.class (line (get_or s wall.from 0)) (line last) other
  pub follows : model.Follows m last (get_or s wall.to 0)
  pub differs : last ≢ get_or s (wall.to - 1) 0
  pub short : total m other ≤ total m (slice wall.from wall.to s)

-- The same where some wall is known.
abbrev pub WalledIf : Map → List ℕ → Option Wall → Type 0
WalledIf m s r = IfSome r (λ wall. Walled m s wall)

-- A wall is known, and the part has both ends of the way, and a class that allows it.
abbrev pub Bars : Option Wall → Part → Type 0
Bars r p = IsSomeAnd r (λ wall. (p.from ≤ wall.from) × (wall.to ≤ p.to) × (wall.class ≤ p.class))

-- ---- a row of legs

-- The numbers of the legs from position `i` up to position `end` are 0.
pub record RowCleared (i end : ℕ) (a b : List ℕ) : Type 0 where
  pub cleared : (j : ℕ) → i < j → j ≤ end → mark b i j ≡ 0
  pub kept : Kept (65 * i + i + 1) (65 * i + end + 1) a b

-- The numbers of the row before answer for its legs.
abbrev pub RowBefore : Map → List ℕ → ℕ → List ℕ → Type 0
RowBefore m s i table = 0 < i → (j : ℕ) → i ≤ j → j ≤ length s → mark table (i - 1) j ≡ 1 → SoleLeg m s (i - 1) j

-- The legs from position `i` up to position `end` are tested. The table was `a` and is `b`.
pub record RowTested (m : Map) (lines : ℕ) (s : List ℕ) (i end : ℕ) (a b w v : List ℕ) : Type 0 where
  pub says : (j : ℕ) → i < j → j ≤ end → Marks (SoleLeg (mirror m) s i j) (mark b i j)
  pub kept : Kept (65 * i + i + 1) (65 * i + end + 1) a b
  pub worked : Worked m lines w v

-- ---- the rows, one after another

-- All numbers of a table are 0.
abbrev pub Blank : List ℕ → Type 0
Blank table = (k : ℕ) → get_or table k 0 ≡ 0

-- The leg from `i` to `j` is one of the first `made` in order of their start, then their end.
abbrev pub Asked : List ℕ → ℕ → ℕ → ℕ → Type 0
Asked s made i j = turn (length s) i (j - i) ≤ made

-- So many legs are tested.
pub record RowsTested (m : Map) (lines : ℕ) (s : List ℕ) (made : ℕ) (a b w v : List ℕ) : Type 0 where
  pub says : (i j : ℕ) → i < j → j ≤ length s → Marks (Asked s made i j × SoleLeg (mirror m) s i j) (mark b i j)
  pub kept : Kept 0 (65 * length s) a b
  pub worked : Worked m lines w v
