-- What a reading is (paper 01, "What counts as a reading"). Leg and reading are the paper's words.
use Rattle.std.specs.Prelude.{ℕ, ◌≤◌, ◌≡◌, Bool, false, ◌||◌, List, [], ◌∷◌, ◌++◌}
use Rattle.model.specs.Map.{Map}
use Rattle.model.specs.Field.{distance}
use Rattle.model.specs.Lines.{line_at, banned, Connected, total, lowest, first_of, last_of, LineAttributes, leaving, arriving}

-- How a leg must end: with any line, or, on the last leg, with one that matches "the last P and R's sector".
pub data Arrival : Type 0 where
  any : Arrival
  matching : LineAttributes → Arrival

-- A leg between two nodes, as the bytes give it: what P and Q's sector say of its first line, its lowest class, D, and its arrival.
pub record Leg : Type 0 where
  pub from : ℕ
  pub to : ℕ
  pub leaves : LineAttributes
  pub lowest : ℕ
  pub distance : ℕ
  pub arrival : Arrival

abbrev pub Arrives : Map → Arrival → List ℕ → Type 0
Arrives m any ls = Unit {0}
Arrives m (matching a) ls = arriving m (last_of ls) ≡ a

-- "Its length is at most" the leg limit, which follows the unit: 1,500,000 centimetres (W8).
abbrev pub greatest_leg_length : ℕ
greatest_leg_length = 1_500_000

-- "All such connected lists (D aside)": every condition but D and least length. "No leg's reading may contain a banned pair, and least length
-- is taken among lists without one" (W1): a connected list has none, since each of its lines follows the one before it.
pub record Allowed (m : Map) (leg : Leg) (ls : List ℕ) : Type 0 where
  pub connected : Connected m ls
  pub starts : (line_at m (first_of ls)).start ≡ leg.from
  pub leaves : leaving m (first_of ls) ≡ leg.leaves
  pub ends : (line_at m (last_of ls)).end ≡ leg.to
  pub arrives : Arrives m leg.arrival ls
  pub classes : lowest m ls ≤ leg.lowest
  pub within : total m ls ≤ greatest_leg_length

-- "With the same first line"; on the last leg "with the same first and last line".
abbrev pub SameEnds : Arrival → List ℕ → List ℕ → Type 0
SameEnds any a b = first_of a ≡ first_of b
SameEnds (matching x) a b = (first_of a ≡ first_of b) × (last_of a ≡ last_of b)

-- "A leg's reading": allowed, it "gives D", and it is "of least length among all such connected lists" with the same ends.
pub record Reading (m : Map) (leg : Leg) (ls : List ℕ) : Type 0 where
  pub allowed : Allowed m leg ls
  pub distanced : distance (total m ls) ≡ leg.distance
  pub least : (other : List ℕ) → Allowed m leg other → SameEnds leg.arrival ls other → total m ls ≤ total m other

-- The three verdicts on a leg. It has exactly one reading, this one.
pub record Only (m : Map) (leg : Leg) (ls : List ℕ) : Type 0 where
  pub reading : Reading m leg ls
  pub only : (other : List ℕ) → Reading m leg other → other ≡ ls

-- It has several.
pub record Several (m : Map) (leg : Leg) : Type 0 where
  pub one : List ℕ
  pub other : List ℕ
  pub first : Reading m leg one
  pub second : Reading m leg other
  pub differ : one ≡ other → ⊥

-- It has none.
abbrev pub Unread : Map → Leg → Type 0
Unread m leg = (ls : List ℕ) → Reading m leg ls → ⊥

-- "A reading of the reference is one per leg, joined."
pub data Readings (m : Map) : List Leg → List (List ℕ) → Type 0 where
  none : Readings m [] []
  also : {leg : Leg} {legs : List Leg} {ls : List ℕ} {lss : List (List ℕ)} →
      Reading m leg ls → Readings m legs lss → Readings m (leg ∷ legs) (ls ∷ lss)

unfoldable pub joined : List (List ℕ) → List ℕ
joined [] = []
joined (ls ∷ lss) = ls ++ joined lss

-- Refusal 22 (W1): "the joined list has one where two legs meet". The pair is the last line of a leg and the first of the next.
unfoldable pub banned_meeting : Map → List (List ℕ) → Bool
banned_meeting m [] = false
banned_meeting m (ls ∷ []) = false
banned_meeting m (ls ∷ ks ∷ lss) = banned m (last_of ls) (first_of ks) || banned_meeting m (ks ∷ lss)
