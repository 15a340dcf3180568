-- The claim of W5: "Read back on the same map, with a full work area and a line buffer that is not empty, what a user wrote gives that one line,
-- orientation and side, and the offset lies in the span."
use Rattle.std.specs.Prelude.{ℕ, ◌≤◌, ◌<◌, ◌≡◌, List, [], ◌∷◌}
use Rattle.model.specs.declared.Span.{Span}
use Rattle.model.specs.Map.{Map, whole, decode}
use Rattle.model.specs.Lines.{line_at}
use Rattle.model.specs.Reading.{Leg, Reading}
use Rattle.model.specs.Locate.{located, locate}
use Rattle.model.specs.Work.{work_length}
use Rattle.model.specs.Demand3.{Within, Apart}
use Rattle.model.specs.PointAlong.{PointAlong, parsed, parse_point, line_reference, PointReadOutcome, read, PointReads, GivenPoint, own_leg, PointWriteOutcome, PointWrites}

-- What fits the bytes of a point: a reading of its leg, an orientation and a side.
pub record FitsPoint (m : Map) (bytes lines : List ℕ) (orientation side : ℕ) : Type 0 where
  pub along : PointAlong
  pub leg : Leg
  pub parses : parse_point bytes ≡ parsed along
  pub locates : locate m (line_reference along) ≡ located (leg ∷ [])
  pub reading : Reading m leg lines
  pub oriented : along.orientation ≡ orientation
  pub sided : along.side ≡ side

-- The reader accepts and hands back that one line, this span, the orientation and the side, and nothing else, with every full work area and every line
-- buffer that is not empty.
pub record PointReadAs (mb bytes : List ℕ) (p : GivenPoint) (span : Span) : Type 0 where
  pub accepts : (work room : ℕ) → work_length ≤ work → 0 < room → PointReads mb bytes work room (read (own_leg p) span p.orientation p.side)
  pub nothing_else : (work room : ℕ) (o : PointReadOutcome) → work_length ≤ work → 0 < room → PointReads mb bytes work room o →
      o ≡ read (own_leg p) span p.orientation p.side

-- What reading a point's bytes on the same map gives. The span's ends are as near as demand 3 says (`Within`), and nothing else fits the bytes.
pub record PointBack (mb : List ℕ) (p : GivenPoint) (bytes : List ℕ) : Type 0 where
  pub map : Map
  pub decodes : decode mb ≡ whole map
  pub span : Span
  pub reads : PointReadAs mb bytes p span
  pub holds : Within p.offset span (line_at map p.line).length
  pub fits : FitsPoint map bytes (own_leg p) p.orientation p.side
  pub only : (lines : List ℕ) (orientation side : ℕ) → FitsPoint map bytes lines orientation side →
      (lines ≡ own_leg p) × (orientation ≡ p.orientation) × (side ≡ p.side)

-- What two points with the same bytes have in common: the line, the orientation and the side, and the offset up to the span that reading their bytes
-- gives, and close on that line.
pub record PointsAlike (mb bytes : List ℕ) (p q : GivenPoint) : Type 0 where
  pub map : Map
  pub decodes : decode mb ≡ whole map
  pub line : p.line ≡ q.line
  pub orientation : p.orientation ≡ q.orientation
  pub side : p.side ≡ q.side
  pub span : Span
  pub reads : PointReadAs mb bytes p span
  pub near : Apart p.offset q.offset span (line_at map p.line).length

-- A single claim, as demand 3 is: about a writing that was accepted and reading what it wrote; and about two writings that gave the same bytes.
pub record PointTrip : Type 0 where
  pub back : (mb bytes : List ℕ) (p : GivenPoint) (work room : ℕ) → PointWrites mb p work room (PointWriteOutcome.written bytes) → PointBack mb p bytes
  pub alike : (mb bytes : List ℕ) (p q : GivenPoint) (work work' room room' : ℕ) →
      PointWrites mb p work room (PointWriteOutcome.written bytes) → PointWrites mb q work' room' (PointWriteOutcome.written bytes) → PointsAlike mb bytes p q
