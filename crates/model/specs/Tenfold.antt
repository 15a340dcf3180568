-- "The ridge example with lengths and offset tenfold keeps its bytes" (paper 02, W8), said of every map and every stretch: with each length and each offset
-- tenfold, in centimetres, the writer comes to what it came to in decimetres.
-- The writer as it was stands here for this sentence alone.
use Rattle.std.specs.Prelude.{ℕ, ◌*◌, ◌/◌, ◌≤◌, ◌≡◌, Bool, true, List, [], ◌∷◌, map, length}
use Rattle.model.specs.declared.Span.{Span}
use Rattle.model.specs.Map.{Line, Map, whole, decode}
use Rattle.model.specs.Difference.{DifferencesFit}
use Rattle.model.specs.Lines.{node_at, total}
use Rattle.model.specs.Reference.{Point, Reference, bytes_of}
use Rattle.model.specs.Reading.{Leg, Allowed, SameEnds}
use Rattle.model.specs.Stretch.{Stretch, StretchAnswer, remains, remaining, check_stretch}
use Rattle.model.specs.Choice.{from_node, to_node, leg_of, LegTest, point_of, reference_of}
use Rattle.model.specs.LegTests.{tests_made}
use Rattle.model.specs.Outcome.{WriteOutcome, written, WriteBy, WriteStretch}
use Rattle.model.specs.PointAlong.{PointAlong, point_along_bytes, GivenPoint, own_leg, along_of, given_bytes, GoodLine, check_point}
use Rattle.model.specs.Demand3.{ReadAs}

-- ---- the writer as it was, in decimetres

-- "D: leg length divided by 586, rounded down", and "its length is at most 150,000" (paper 01).
unfoldable pub decimetre_distance : ℕ → ℕ
decimetre_distance length = length / 586

abbrev pub decimetre_limit : ℕ
decimetre_limit = 150_000

-- The leg that some lines make: all but D is as it is now.
unfoldable pub decimetre_leg : Map → Bool → List ℕ → Leg
decimetre_leg m last ls =
    let leg = leg_of m last ls in
    record {
      from = leg.from;
      to = leg.to;
      leaves = leg.leaves;
      lowest = leg.lowest;
      distance = decimetre_distance (total m ls);
      arrival = leg.arrival;
    }

-- A list for a leg: what is allowed now, within the lesser limit.
pub record DecimetreAllowed (m : Map) (leg : Leg) (ls : List ℕ) : Type 0 where
  pub allowed : Allowed m leg ls
  pub within : total m ls ≤ decimetre_limit

pub record DecimetreReading (m : Map) (leg : Leg) (ls : List ℕ) : Type 0 where
  pub allowed : DecimetreAllowed m leg ls
  pub distanced : decimetre_distance (total m ls) ≡ leg.distance
  pub least : (other : List ℕ) → DecimetreAllowed m leg other → SameEnds leg.arrival ls other → total m ls ≤ total m other

-- A leg that might be used.
pub record DecimetreGood (m : Map) (last : Bool) (ls : List ℕ) : Type 0 where
  pub fit : DifferencesFit (node_at m (from_node m ls)) (node_at m (to_node m ls))
  pub reading : DecimetreReading m (decimetre_leg m last ls) ls
  pub only : (other : List ℕ) → DecimetreReading m (decimetre_leg m last ls) other → other ≡ ls

abbrev pub decimetre_good : Map → LegTest
decimetre_good m at last ls = DecimetreGood m last ls

-- The points of some legs, and their bytes: all but D is as it is now.
unfoldable pub decimetre_point : Map → List ℕ → Point
decimetre_point m ls =
    let p = point_of m ls in record { leaves = p.leaves; lowest = p.lowest; distance = decimetre_distance (total m ls); next = p.next }

unfoldable pub decimetre_points : Map → List (List ℕ) → List Point
decimetre_points m [] = []
decimetre_points m (ls ∷ lss) = decimetre_point m ls ∷ decimetre_points m lss

unfoldable pub decimetre_reference : Map → List (List ℕ) → ℕ → ℕ → Reference
decimetre_reference m legs pos neg =
    let r = reference_of m legs pos neg in
    record { lon = r.lon; lat = r.lat; points = decimetre_points m legs; arrives = r.arrives; pos = r.pos; neg = r.neg }

unfoldable pub decimetre_bytes : Map → List (List ℕ) → Stretch → List ℕ
decimetre_bytes m legs s = bytes_of (decimetre_reference m legs s.pos s.neg)

-- Its outcome on a map, row by row as it is now.
abbrev pub DecimetreStretch : Map → StretchAnswer → ℕ → ℕ → WriteOutcome → Type 0
DecimetreStretch m (remains s) tests room o =
    WriteBy (decimetre_good m) (λ lss. decimetre_bytes m lss s) s.lines (tests_made (length s.lines) tests) room o
DecimetreStretch m (StretchAnswer.refused r) tests room o = o ≡ WriteOutcome.refused r

-- A point along a line, and its bytes: all but D is as it is now.
unfoldable pub decimetre_along : Map → GivenPoint → PointAlong
decimetre_along m p =
    let a = along_of m p in
    record {
      lon = a.lon;
      lat = a.lat;
      orientation = a.orientation;
      point = decimetre_point m (own_leg p);
      side = a.side;
      arrives = a.arrives;
      offset = a.offset;
    }

unfoldable pub decimetre_given_bytes : Map → GivenPoint → List ℕ
decimetre_given_bytes m p = point_along_bytes (decimetre_along m p)

-- ---- the sentence

-- "Lengths and offset tenfold": each line's length, and both offsets of a stretch. All else is as it is, the lines' sectors too, since steps stay decimetres.
abbrev pub tenfold_line : Line → Line
tenfold_line l =
    record { start = l.start; end = l.end; length = 10 * l.length; frc = l.frc; fow = l.fow; out = l.out; back = l.back }

abbrev pub tenfold : Map → Map
tenfold m = record { nodes = m.nodes; lines = map tenfold_line m.lines; bans = m.bans }

abbrev pub tenfold_stretch : Stretch → Stretch
tenfold_stretch s = record { lines = s.lines; pos = 10 * s.pos; neg = 10 * s.neg }

abbrev pub tenfold_point : GivenPoint → GivenPoint
tenfold_point p = record { line = p.line; offset = 10 * p.offset; orientation = p.orientation; side = p.side }

-- "Keeps its bytes": the whole outcome of a stretch, bytes or refusal, is the one that it had, whatever the map, the number of leg tests and the byte buffer.
-- And so what was written in decimetres is read on the map of centimetres as the same lines.
pub record Tenfold : Type 0 where
  pub keeps : (m : Map) (s : Stretch) (tests room : ℕ) (o : WriteOutcome) → DecimetreStretch m (check_stretch m s) tests room o →
      WriteStretch (tenfold m) (check_stretch (tenfold m) (tenfold_stretch s)) tests room o
  pub kept : (m : Map) (s : Stretch) (tests room : ℕ) (o : WriteOutcome) →
      WriteStretch (tenfold m) (check_stretch (tenfold m) (tenfold_stretch s)) tests room o → DecimetreStretch m (check_stretch m s) tests room o
  pub still_read : (m : Map) (mb bytes : List ℕ) (s : Stretch) (tests room made excess : ℕ) → decode mb ≡ whole (tenfold m) →
      DecimetreStretch m (check_stretch m s) tests room (written bytes made excess) →
      (pos : Span) × (neg : Span) × ReadAs mb bytes (remaining m s).lines pos neg

-- The same of a point along a line: what decides its outcome, which is its check as given, whether its line is good, and its bytes.
pub record TenfoldPoints : Type 0 where
  pub checks : (m : Map) (p : GivenPoint) → check_point (tenfold m) (tenfold_point p) ≡ check_point m p
  pub good_now : (m : Map) (p : GivenPoint) → DecimetreGood m true (own_leg p) → GoodLine (tenfold m) (tenfold_point p)
  pub good_then : (m : Map) (p : GivenPoint) → GoodLine (tenfold m) (tenfold_point p) → DecimetreGood m true (own_leg p)
  pub bytes : (m : Map) (p : GivenPoint) → given_bytes (tenfold m) (tenfold_point p) ≡ decimetre_given_bytes m p
