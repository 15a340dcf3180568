-- Leg tests: the order in which the writer makes them, and what is known of a stretch's legs after a number of them (paper 02, W7).
-- Of a stretch of `n` lines, which is what remains after the offsets.
use Rattle.std.specs.Prelude.{ℕ, zero, suc, ◌+◌, ◌-◌, ◌≤◌, ◌<◌, min, ◌≡◌, Bool, List, length}
use Rattle.model.specs.Choice.{LegTest, Choice}

-- How many legs start before position `at`: `n` at position 0, one fewer at each later one.
unfoldable pub legs_before : ℕ → ℕ → ℕ
legs_before n zero = 0
legs_before n (suc at) = legs_before n at + (n - at)

-- "In order of the leg's start, then its end": the turn of the leg of `len` lines with `at` lines before it. The first leg's is 1.
unfoldable pub turn : ℕ → ℕ → ℕ → ℕ
turn n at len = legs_before n at + len

-- How many legs there are.
unfoldable pub leg_count : ℕ → ℕ
leg_count n = legs_before n n

-- "It makes that many, or one for each leg if that is fewer."
unfoldable pub tests_made : ℕ → ℕ → ℕ
tests_made n tests = min tests (leg_count n)

-- After `made` tests: a leg that is "tested good".
pub record TestedGood (test : LegTest) (n made at : ℕ) (last : Bool) (ls : List ℕ) : Type 0 where
  pub tested : turn n at (length ls) ≤ made
  pub good : test at last ls

-- "When untested legs count as good": a leg that is good, or one of a line or more whose turn has not come, whatever its differences and its length.
pub data GoodOrUntested (test : LegTest) (n made at : ℕ) (last : Bool) (ls : List ℕ) : Type 0 where
  good : test at last ls → GoodOrUntested test n made at last ls
  untested : 0 < length ls → made < turn n at (length ls) → GoodOrUntested test n made at last ls

-- Both as tests of the legs of these lines.
abbrev pub tested_good : LegTest → List ℕ → ℕ → LegTest
tested_good test lines made at last ls = TestedGood test (length lines) made at last ls

abbrev pub good_or_untested : LegTest → List ℕ → ℕ → LegTest
good_or_untested test lines made at last ls = GoodOrUntested test (length lines) made at last ls

-- No choice of points is usable by a test.
abbrev pub NoChoice : LegTest → List ℕ → Type 0
NoChoice test lines = (legs : List (List ℕ)) → Choice test lines legs → ⊥

-- The fewest legs of a usable choice. A choice has one point more than legs.
pub record Fewest (test : LegTest) (lines : List ℕ) (count : ℕ) : Type 0 where
  pub legs : List (List ℕ)
  pub choice : Choice test lines legs
  pub counted : length legs ≡ count
  pub fewest : (others : List (List ℕ)) → Choice test lines others → count ≤ length others
