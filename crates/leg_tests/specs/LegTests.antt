-- The tests of a stretch's legs: which of them may be used (paper 01, "What counts as a reading", last paragraph; W7: as many as may be tested).
-- Number 65 × i + j of a table is for the leg from position `i` to position `j`, and number 65 × i for the line at position `i`.
use Rattle.work_area.specs.Area.{lines_from, bans_to}
use Rattle.work_area.specs.Mirror.{mirror}
use Rattle.model.specs.Map.{Map}
use Rattle.model.specs.Reading.{greatest_leg_length, Leg, Allowed, Reading}
use Rattle.model.specs.LegTests.{turn, tested_good}
use Rattle.std.specs.Prelude.{ℕ, ◌*◌, ◌-◌, ◌≤◌, ◌<◌, ◌≡◌, Bool, true, false, ◌≢◌, List, length, get_or, eqb, Option, IfSome}
use Rattle.std.proofs.Math.Seq.{slice}
use Rattle.model.specs.Field.{distance}
use Rattle.model.specs.Lines.{line_at, node_at, Connected, total, lowest, first_of, last_of, leaving}
use Rattle.model.specs.Difference.{DifferencesFit}
use Rattle.model.specs.Choice.{from_node, to_node, leg_of, good}
use Rattle.buffers.specs.Kept.{Kept}
use Rattle.way_lengths.specs.declared.Terminus.{Terminus}
use Rattle.way_lengths.specs.Ways.{line, Ends, Stands}
use Rattle.search_cells.specs.Area.{Searched, Set}
use Rattle.legs.specs.Verdict.{LimitFor, TerminusOf, ReadingTo, ToLines}
use Rattle.stretches.specs.Known.{Known}
use Rattle.point_choice.specs.Cuts.{Tested}
use Rattle.sole_ways.specs.SoleWays.{mark, Marks, own_end, SoleLeg, Worked}
use Rattle.leg_tests.specs.declared.cells.Cell.{Cell}
use Rattle.leg_tests.specs.declared.leg_search.Done.{Done}

-- The leg from `i` to `j` as its bytes will say.
abbrev pub leg_from : Map → List ℕ → ℕ → ℕ → Leg
leg_from m s i j = leg_of m (eqb j (length s)) (slice i j s)

-- The differences of a leg's ends fit.
abbrev pub Fits : Map → List ℕ → Type 0
Fits m ls = DifferencesFit (node_at m (from_node m ls)) (node_at m (to_node m ls))

-- They fit, and it is no longer than a leg can be.
pub record Usual (m : Map) (ls : List ℕ) : Type 0 where
  pub fit : Fits m ls
  pub within : total m ls ≤ greatest_leg_length

-- ---- first lines

-- The line at position `i` is alone: no other starts at the same node with the same attributes.
abbrev pub Alone : Map → ℕ → List ℕ → ℕ → Type 0
Alone m lines s i =
    (l : ℕ) → l < lines → (line_at m l).start ≡ (line_at m (get_or s i 0)).start → leaving m l ≡ leaving m (get_or s i 0) → l ≡ get_or s i 0

-- Which lines are alone is noted in a table.
abbrev pub Noted : Map → ℕ → List ℕ → List ℕ → Type 0
Noted m lines s table = (i : ℕ) → i < length s → Marks (Alone m lines s i) (get_or table (65 * i) 0)

-- Only such notes are changed.
pub record NotesKept (n : ℕ) (a b : List ℕ) : Type 0 where
  pub legs : (i j : ℕ) → 0 < j → j ≤ 64 → mark b i j ≡ mark a i j
  pub kept : Kept 0 (65 * n) a b

-- ---- termini

-- A terminus of the legs to position `j`, from whatever position.
pub record Serves (m : Map) (lines : ℕ) (s : List ℕ) (j : ℕ) (to : Terminus) : Type 0 where
  pub stands : Stands (mirror m) lines to
  pub terminus : (i : ℕ) → i < j → TerminusOf m (leg_from m s i j) to

-- Their own lines end there.
pub record Own (m : Map) (lines : ℕ) (s : List ℕ) (j : ℕ) (to : Terminus) : Type 0 where
  pub serves : Serves m lines s j to
  pub ends : Ends m to (get_or s (j - 1) 0)
  pub is : own_end m s j ≡ to

-- Another terminus of theirs: their own lines do not end there.
pub record Other (m : Map) (lines : ℕ) (s : List ℕ) (j : ℕ) (to : Terminus) : Type 0 where
  pub serves : Serves m lines s j to
  pub differs : Ends m to (get_or s (j - 1) 0) → ⊥

-- The one or the other.
abbrev pub EndsThere : Map → ℕ → List ℕ → ℕ → Terminus → Bool → Type 0
EndsThere m lines s j to true = Own m lines s j to
EndsThere m lines s j to false = Other m lines s j to

-- ---- what is asked of a leg

-- The lines `ls` are the only reading of a leg to a terminus, if they end there; and if not, there is none.
pub record Sole (m : Map) (leg : Leg) (ls : List ℕ) (to : Terminus) : Type 0 where
  pub own : Ends m to (last_of ls) → Reading m leg ls
  pub only : (other : List ℕ) → ReadingTo m leg to other → other ≡ ls

-- What is said of one last line, of all last lines from `at` on.
pub record SoleFrom (m : Map) (leg : Leg) (ls : List ℕ) (at : ℕ) : Type 0 where
  pub own : at ≤ last_of ls → Reading m leg ls
  pub only : (other : List ℕ) → ToLines m leg at other → other ≡ ls

-- The leg from `i` to `j` is usual, and its own lines are its only reading to a terminus.
pub record OwnRead (m : Map) (s : List ℕ) (i j : ℕ) (to : Terminus) : Type 0 where
  pub usual : Usual m (slice i j s)
  pub sole : Sole m (leg_from m s i j) (slice i j s) to

-- What is asked of a leg by a terminus: by its own that it is usual too.
abbrev pub Asked : Map → List ℕ → ℕ → ℕ → Terminus → Bool → Type 0
Asked m s i j to true = OwnRead m s i j to
Asked m s i j to false = Sole m (leg_from m s i j) (slice i j s) to

-- A leg's number `x` became `y` by a question: it stays 1 where the answer is yes, and nothing becomes 1.
pub record Sifted (P : Type 0) (x y : ℕ) : Type 0 where
  pub still : y ≡ 1 → x ≡ 1
  pub holds : y ≡ 1 → P
  pub stays : x ≡ 1 → P → y ≡ 1

-- What is known of a leg whose number was `x` and is `y` while its last lines from `at` on are tested: 1 where none of them speaks against it.
pub record Open (m : Map) (s : List ℕ) (i j at x y : ℕ) : Type 0 where
  pub still : y ≡ 1 → x ≡ 1
  pub usual : y ≡ 1 → Usual m (slice i j s)
  pub sole : y ≡ 1 → SoleFrom m (leg_from m s i j) (slice i j s) at
  pub good : x ≡ 1 → Tested (good m) s i j → y ≡ 1

-- A leg's own lines: allowed by the leg, of its D, with this first line and length, and with this terminus of the leg.
pub record OwnLines (m : Map) (leg : Leg) (ls : List ℕ) (to : Terminus) (first len : ℕ) : Type 0 where
  pub allowed : Allowed m leg ls
  pub distanced : distance (total m ls) ≡ leg.distance
  pub starts : first_of ls ≡ first
  pub sum : total m ls ≡ len
  pub terminus : TerminusOf m leg to
  pub ends : Ends m to (last_of ls)

-- ---- the search for a leg

-- Where a search back from a terminus is told, it is done in the work area.
abbrev pub DoneFor : Map → ℕ → Terminus → Option Done → List ℕ → Type 0
DoneFor m lines to r w = IfSome r (λ done. Searched (mirror m) lines done.class to done.limit w)

-- A search is done that serves a leg of length `len`.
pub record DoneUpTo (m : Map) (lines class : ℕ) (to : Terminus) (len limit : ℕ) (w : List ℕ) : Type 0 where
  pub limited : LimitFor (distance len) limit
  pub searched : Searched (mirror m) lines class to limit w

-- The leg from `i` to `j` has this lowest class and length.
pub record Measured (m : Map) (s : List ℕ) (i j class len : ℕ) : Type 0 where
  pub ordered : i < j
  pub inside : j ≤ length s
  pub classes : class ≡ lowest m (slice i j s)
  pub sum : len ≡ total m (slice i j s)

-- It is a leg of a stretch under test.
pub record Trial (m : Map) (lines : ℕ) (s : List ℕ) (i j class len : ℕ) : Type 0 where
  pub known : Known lines s
  pub connected : Connected m s
  pub few : length s ≤ 64
  pub measured : Measured m s i j class len

-- A search for a leg of length `len` is done, up to the limit `r`.
pub record Prepared (m : Map) (lines class : ℕ) (to : Terminus) (len : ℕ) (w v : List ℕ) (r : ℕ) : Type 0 where
  pub done : DoneUpTo m lines class to len r v
  pub worked : Worked m lines w v

-- ---- one number of the table

-- A leg of a stretch under test whose number is 1: it is a sole way.
pub record OnLeg (m : Map) (lines : ℕ) (s : List ℕ) (i j : ℕ) : Type 0 where
  pub known : Known lines s
  pub connected : Connected m s
  pub few : length s ≤ 64
  pub ordered : i < j
  pub inside : j ≤ length s

-- The leg's number answers for a terminus, after a search.
pub record CellSearched (m : Map) (lines : ℕ) (s : List ℕ) (i j : ℕ) (to : Terminus) (w v : List ℕ) (r : Cell) : Type 0 where
  pub says : Marks (Sole m (leg_from m s i j) (slice i j s) to) r.mark
  pub done : DoneFor m lines to r.last v
  pub worked : Worked m lines w v

-- The number `x` of the leg from `i` to `j`, and what is searched, after the test of a terminus.
pub record CellTested (m : Map) (lines : ℕ) (s : List ℕ) (i j : ℕ) (to : Terminus) (own : Bool) (x : ℕ) (w v : List ℕ) (r : Cell) : Type 0 where
  pub sifted : Sifted (Asked m s i j to own) x r.mark
  pub done : DoneFor m lines to r.last v
  pub worked : Worked m lines w v

-- ---- a column of the table, which was `a` and is `b`

-- The legs to position `j` whose number is 1 are sole ways.
abbrev pub SoleColumn : Map → List ℕ → ℕ → List ℕ → Type 0
SoleColumn m s j table = (i : ℕ) → i < j → mark table i j ≡ 1 → SoleLeg m s i j

-- Only the numbers of the legs to position `j` are changed.
pub record ColumnKept (j : ℕ) (a b : List ℕ) : Type 0 where
  pub others : (i k : ℕ) → k ≤ 64 → k ≢ j → mark b i k ≡ mark a i k
  pub kept : Kept 0 (65 * j) a b

-- The legs after the test of a terminus.
pub record ColumnSifted (m : Map) (lines : ℕ) (s : List ℕ) (j : ℕ) (to : Terminus) (own : Bool) (a b w v : List ℕ) : Type 0 where
  pub sifted : (i : ℕ) → i < j → Sifted (Asked m s i j to own) (mark a i j) (mark b i j)
  pub kept : ColumnKept j a b
  pub worked : Worked m lines w v

-- The legs to the last position whose number is 1 pass the test of their own last line.
abbrev pub Owned : Map → List ℕ → List ℕ → Type 0
Owned m s table = (i : ℕ) → i < length s → mark table i (length s) ≡ 1 → OwnRead m s i (length s) (line (get_or s (length s - 1) 0))

-- The legs to position `j` are tested: a number stays 1 where the leg may be used.
pub record ColumnTested (m : Map) (lines : ℕ) (s : List ℕ) (j : ℕ) (a b w v : List ℕ) : Type 0 where
  pub tested : (i : ℕ) → i < j → Sifted (Tested (good m) s i j) (mark a i j) (mark b i j)
  pub kept : ColumnKept j a b
  pub worked : Worked m lines w v

-- ---- the whole table

-- The first leg is marked if it is tested, and no other is.
pub record FirstMarked (n made : ℕ) (a b : List ℕ) : Type 0 where
  pub one : made ≤ 1
  pub says : (i j : ℕ) → i < j → j ≤ n → Marks (turn n i (j - i) ≤ made) (mark b i j)
  pub kept : Kept 0 (65 * n) a b

-- The legs that are tested are marked where they are sole ways. Before the map's lines and past the banned turns the work area is as it was.
pub record SoleTested (m : Map) (lines : ℕ) (s : List ℕ) (made : ℕ) (a b w v : List ℕ) : Type 0 where
  pub says : (i j : ℕ) → i < j → j ≤ length s → Marks ((turn (length s) i (j - i) ≤ made) × SoleLeg m s i j) (mark b i j)
  pub kept : Kept 0 (65 * length s) a b
  pub set : Set m lines v
  pub area : Kept lines_from bans_to w v

-- Every leg whose number is 1 is a sole way.
abbrev pub SoleLegs : Map → List ℕ → List ℕ → Type 0
SoleLegs m s table = (i j : ℕ) → i < j → j ≤ length s → mark table i j ≡ 1 → SoleLeg m s i j

-- All of them are tested. Past the rows of the stretch's positions the table is unchanged.
pub record LegsSifted (m : Map) (lines : ℕ) (s : List ℕ) (a b w v : List ℕ) : Type 0 where
  pub tested : (i j : ℕ) → i < j → j ≤ length s → Sifted (Tested (good m) s i j) (mark a i j) (mark b i j)
  pub kept : Kept 0 (65 * length s) a b
  pub worked : Worked m lines w v

-- So many legs are tested, in order of their start, then their end: a number is 1 where the leg is tested good.
pub record AllTested (m : Map) (lines : ℕ) (s : List ℕ) (made : ℕ) (a b w v : List ℕ) : Type 0 where
  pub tested : (i j : ℕ) → i < j → j ≤ length s → Marks (Tested (tested_good (good m) s made) s i j) (mark b i j)
  pub kept : Kept 0 (65 * length s) a b
  pub set : Set m lines v
  pub area : Kept lines_from bans_to w v
