-- Which points the writer takes, and the bytes it writes (paper 01, "What counts as a reading", last paragraph; "The bytes").
-- A choice of points is given by the legs that it cuts the stretch into.
use Rattle.std.specs.Prelude.{ℕ, ◌+◌, ◌<◌, ◌≡◌, Bool, true, false, cond, List, [], ◌∷◌, length, eqb}
use Rattle.model.specs.Map.{Map, lon_code, lat_code}
use Rattle.model.specs.Field.{distance, offset_byte}
use Rattle.model.specs.Difference.{DifferencesFit, differences}
use Rattle.model.specs.Lines.{line_at, node_at, total, lowest, first_of, last_of, leaving, arriving}
use Rattle.model.specs.Reference.{Offset, absent, byte, Point, Reference, bytes_of}
use Rattle.model.specs.Reading.{Arrival, any, matching, Leg, Only, joined}
use Rattle.model.specs.Stretch.{Stretch}

-- The nodes that some lines start and end at.
unfoldable pub from_node : Map → List ℕ → ℕ
from_node m ls = (line_at m (first_of ls)).start

unfoldable pub to_node : Map → List ℕ → ℕ
to_node m ls = (line_at m (last_of ls)).end

-- The leg that some lines make, as its bytes will say, and whether it is the last.
unfoldable pub arrival_of : Map → Bool → List ℕ → Arrival
arrival_of m last ls = cond last (matching (arriving m (last_of ls))) any

unfoldable pub leg_of : Map → Bool → List ℕ → Leg
leg_of m last ls =
    record {
      from = from_node m ls;
      to = to_node m ls;
      leaves = leaving m (first_of ls);
      lowest = lowest m ls;
      distance = distance (total m ls);
      arrival = arrival_of m last ls;
    }

-- A leg that may be used: "differences fit 16 bits, and each leg of the stretch is the only reading of that leg".
pub record Good (m : Map) (last : Bool) (ls : List ℕ) : Type 0 where
  pub fit : DifferencesFit (node_at m (from_node m ls)) (node_at m (to_node m ls))
  pub only : Only m (leg_of m last ls) ls

-- A test of a leg: by how many lines stand before it in the stretch, whether it is the last, and its lines.
abbrev pub LegTest : Type 1
LegTest = ℕ → Bool → List ℕ → Type 0

-- The test that the writer goes by does not look at the place.
abbrev pub good : Map → LegTest
good m at last ls = Good m last ls

-- "A choice of points is usable": each of its legs passes the test, the first with `at` lines before it.
pub data Usable (test : LegTest) : ℕ → List (List ℕ) → Type 0 where
  final : {at : ℕ} {ls : List ℕ} → test at true ls → Usable test at (ls ∷ [])
  before : {at : ℕ} {ls ks : List ℕ} {lss : List (List ℕ)} →
      test at false ls → Usable test (at + length ls) (ks ∷ lss) → Usable test at (ls ∷ ks ∷ lss)

-- "Its first and last are the stretch's ends": the legs make up these lines.
pub record Choice (test : LegTest) (lines : List ℕ) (legs : List (List ℕ)) : Type 0 where
  pub usable : Usable test 0 legs
  pub whole : joined legs ≡ lines

-- "The one whose first leg has most lines, then the second, and so on."
pub data MoreFirst : List (List ℕ) → List (List ℕ) → Type 0 where
  more : {a b : List ℕ} {xs ys : List (List ℕ)} → length b < length a → MoreFirst (a ∷ xs) (b ∷ ys)
  later : {a b : List ℕ} {xs ys : List (List ℕ)} → length a ≡ length b → MoreFirst xs ys → MoreFirst (a ∷ xs) (b ∷ ys)

-- The first choice is the second, or goes before it: "the fewest points; among those, .. most lines".
pub data Preferred : List (List ℕ) → List (List ℕ) → Type 0 where
  same : {a : List (List ℕ)} → Preferred a a
  fewer : {a b : List (List ℕ)} → length a < length b → Preferred a b
  more_first : {a b : List (List ℕ)} → length a ≡ length b → MoreFirst a b → Preferred a b

-- "The writer takes": a usable choice that goes before every other.
pub record Chosen (test : LegTest) (lines : List ℕ) (legs : List (List ℕ)) : Type 0 where
  pub choice : Choice test lines legs
  pub preferred : (others : List (List ℕ)) → Choice test lines others → Preferred legs others

-- The first and the last leg.
unfoldable pub first_leg : List (List ℕ) → List ℕ
first_leg [] = []
first_leg (ls ∷ lss) = ls

unfoldable pub last_leg : List (List ℕ) → List ℕ
last_leg [] = []
last_leg (ls ∷ []) = ls
last_leg (ls ∷ ks ∷ lss) = last_leg (ks ∷ lss)

-- The point that a leg starts at.
unfoldable pub point_of : Map → List ℕ → Point
point_of m ls =
    record {
      leaves = leaving m (first_of ls);
      lowest = lowest m ls;
      distance = distance (total m ls);
      next = differences (node_at m (from_node m ls)) (node_at m (to_node m ls));
    }

unfoldable pub points_of : Map → List (List ℕ) → List Point
points_of m [] = []
points_of m (ls ∷ lss) = point_of m ls ∷ points_of m lss

-- "A flag is set when the offset is not 0"; its byte is of the leg's length.
unfoldable pub offset_of : ℕ → ℕ → Offset
offset_of leg offset = cond (eqb offset 0) absent (byte (offset_byte leg offset))

-- The reference of some legs and offsets: "first leg for the positive, last for the negative".
unfoldable pub reference_of : Map → List (List ℕ) → ℕ → ℕ → Reference
reference_of m legs pos neg =
    record {
      lon = lon_code (node_at m (from_node m (first_leg legs)));
      lat = lat_code (node_at m (from_node m (first_leg legs)));
      points = points_of m legs;
      arrives = arriving m (last_of (last_leg legs));
      pos = offset_of (total m (first_leg legs)) pos;
      neg = offset_of (total m (last_leg legs)) neg;
    }

-- The bytes of what remains of a stretch, cut into some legs.
unfoldable pub stretch_bytes : Map → List (List ℕ) → Stretch → List ℕ
stretch_bytes m legs s = bytes_of (reference_of m legs s.pos s.neg)
