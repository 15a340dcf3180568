-- Signs and hydrants (paper 02, W5): the white paper's point along line (document 000, 8.2.2), its bytes, what reading and writing one come to, and the two
-- calls. What it has in common with a line reference stands with that: a point's bytes, its node, a leg and its readings, an offset's span.
use Rattle.std.specs.Prelude.{ℕ, ◌+◌, ◌*◌, ◌-◌, ◌/◌, ◌%◌, ◌≤◌, ◌<◌, ◌≡◌, true, cond, ◌||◌, List, [], ◌∷◌, length, get_or, ltb, leb, eqb, Err, Ok}
use Rattle.model.specs.declared.Span.{Span}
use Rattle.model.specs.declared.Refusal.{Refusal}
use Rattle.model.specs.Answer.{PointReadAnswer, PointWriteAnswer, point_read}
use Rattle.model.specs.Refusal.{Refused, row, refusal_of}
use Rattle.model.specs.Map.{Map, MapAnswer, lon_code, lat_code}
use Rattle.model.specs.Lines.{LineAttributes, line_at, node_at, arriving}
use Rattle.model.specs.Reference.{Offset, absent, Point, Reference, bytes2, bytes3, byte_p, byte_q, flag, offset_bytes, at2, at3, attributes, positive, negative, offset_at}
use Rattle.model.specs.Choice.{Good, point_of, offset_of}
use Rattle.model.specs.Opening.{OnMap, Opens}
use Rattle.model.specs.Outcome.{ReadOutcome, ReadOn}
use Rattle.model.specs.Work.{placed}
use Rattle.model.specs.Call.{Answered, Called}

-- ---- the bytes

-- "With the paper's values" (document 000, Tables 20 and 21). Orientation: none or unknown, from the first point towards the second, from the second
-- towards the first, in both directions.
abbrev pub no_orientation : ℕ
no_orientation = 0

abbrev pub first_to_second : ℕ
first_to_second = 1

abbrev pub second_to_first : ℕ
second_to_first = 2

abbrev pub both_directions : ℕ
both_directions = 3

-- Side of road: on the road or unknown, right, left, both sides.
abbrev pub on_road : ℕ
on_road = 0

abbrev pub right_side : ℕ
right_side = 1

abbrev pub left_side : ℕ
left_side = 2

abbrev pub both_sides : ℕ
both_sides = 3

-- Refusal 25: "orientation or side over 3".
abbrev pub greatest_mark : ℕ
greatest_mark = 3

-- A point along line: the codes of the first point, the orientation, what the first point says of the line leaving it and of the leg to the last point,
-- the side of road, what the last point says of the line arriving, and the offset.
pub record PointAlong : Type 0 where
  pub lon : ℕ
  pub lat : ℕ
  pub orientation : ℕ
  pub point : Point
  pub side : ℕ
  pub arrives : LineAttributes
  pub offset : Offset

-- "Status 2B, 16 or 17 bytes."
abbrev pub point_status : ℕ
point_status = 0x2B

abbrev pub shortest_point : ℕ
shortest_point = 16

abbrev pub longest_point : ℕ
longest_point = 17

-- Its bytes in order, counted from 0. "P of the first point holds the orientation and P of the last the side of road, in bits 7 and 6."
--   0           the status
--   1, 2, 3     the longitude code of the first point
--   4, 5, 6     its latitude code
--   7           its P: orientation in bits 7 and 6, FRC in 5 to 3, FOW in 2 to 0
--   8           its Q: lowest class in bits 7 to 5, sector in 4 to 0
--   9           its D
--   10, 11      the longitude of the last point less the first point's
--   12, 13      its latitude less the first point's
--   14          its P: side of road in bits 7 and 6, FRC in 5 to 3, FOW in 2 to 0
--   15          its R: bit 7 zero, the offset's flag in bit 6, the negative flag in bit 5 zero, sector in 4 to 0
--   16          the offset byte, "only if flagged"
unfoldable pub point_along_bytes : PointAlong → List ℕ
point_along_bytes a =
    let first_p = a.orientation * 64 + byte_p a.point.leaves in
    let q = byte_q a.point in
    let d = a.point.distance in
    let last_p = a.side * 64 + byte_p a.arrives in
    let r = flag a.offset 64 + a.arrives.sector in
    point_status
    ∷ bytes3 a.lon
    (bytes3 a.lat (first_p ∷ q ∷ d ∷ bytes2 a.point.next.lon (bytes2 a.point.next.lat (last_p ∷ r ∷ offset_bytes a.offset))))

-- The other way: what stands in such bytes, each at its place.
unfoldable pub point_along_at : List ℕ → PointAlong
point_along_at bs =
    let first_p = get_or bs 7 0 in
    let q = get_or bs 8 0 in
    let d = get_or bs 9 0 in
    let last_p = get_or bs 14 0 in
    let r = get_or bs 15 0 in
    record {
      lon = at3 bs 1;
      lat = at3 bs 4;
      orientation = first_p / 64;
      point = record { leaves = attributes (first_p % 64) q; lowest = q / 32; distance = d; next = record { lon = at2 bs 10; lat = at2 bs 12 } };
      side = last_p / 64;
      arrives = attributes (last_p % 64) r;
      offset = offset_at (positive r) bs 16;
    }

pub data PointParse : Type 0 where
  parsed : PointAlong → PointParse
  refused : Refused → PointParse

-- Bytes taken apart, or refused: "12, 13 and 15 by this shape and 14 for R's bit 7 or the negative flag".
unfoldable pub parse_point : List ℕ → PointParse
parse_point bs =
    let r = get_or bs 15 0 in
    cond (ltb (length bs) shortest_point || ltb longest_point (length bs)) (refused (row 12))
    (cond (eqb (get_or bs 0 0) point_status)
    (cond (leb 128 r || negative r) (refused (row 14))
    (cond (eqb (length bs - shortest_point) (r / 64 % 2)) (parsed (point_along_at bs)) (refused (row 15))))
    (refused (row 13)))

-- The points, the leg and the offset of a point along line are those of a line reference, this one: what is said of its points' nodes, of its leg and
-- of its offset's span (Locate, Reading, Span) serves both.
unfoldable pub line_reference : PointAlong → Reference
line_reference a = record { lon = a.lon; lat = a.lat; points = a.point ∷ []; arrives = a.arrives; pos = a.offset; neg = absent }

-- ---- reading

-- "Reading hands back the leg's lines, however many, the offset span, orientation and side."
pub data PointReadOutcome : Type 0 where
  read : List ℕ → Span → ℕ → ℕ → PointReadOutcome
  refused : Refused → PointReadOutcome

-- On a map, for bytes taken apart: 16 to 20, or accepted, as for the line reference with these points, this leg and this offset.
pub data PointReadOn (m : Map) (a : PointAlong) (room : ℕ) : PointReadOutcome → Type 0 where
  accepted : {ls : List ℕ} {pos neg : Span} → ReadOn m (line_reference a) room (ReadOutcome.read ls pos neg) →
      PointReadOn m a room (read ls pos a.orientation a.side)
  not_accepted : {why : Refused} → ReadOn m (line_reference a) room (ReadOutcome.refused why) → PointReadOn m a room (refused why)

-- Row by row: the bytes (12 to 15) after the map (2 to 6, 23, 24) after the work area (1).
abbrev pub PointReadParsed : Map → PointParse → ℕ → PointReadOutcome → Type 0
PointReadParsed m (parsed a) room o = PointReadOn m a room o
PointReadParsed m (PointParse.refused r) room o = o ≡ refused r

abbrev pub PointReadMap : MapAnswer → List ℕ → ℕ → PointReadOutcome → Type 0
PointReadMap answer ref room o = OnMap PointReadOutcome.refused (λ m. PointReadParsed m (parse_point ref) room) answer o

-- The reader's outcome for map bytes, the bytes of a point along line, a work area of `work` numbers and a line buffer of `room` numbers.
abbrev pub PointReads : List ℕ → List ℕ → ℕ → ℕ → PointReadOutcome → Type 0
PointReads mb ref work room o = Opens PointReadOutcome.refused (λ m. PointReadParsed m (parse_point ref) room) mb work o

-- ---- writing

-- "The user gives a line, an offset below its length, orientation and side."
pub record GivenPoint : Type 0 where
  pub line : ℕ
  pub offset : ℕ
  pub orientation : ℕ
  pub side : ℕ

-- "The two points are that line's ends": the only leg is the line alone.
abbrev pub own_leg : GivenPoint → List ℕ
own_leg p = p.line ∷ []

-- The point along line that says it: the first point is where the line starts, and what is said of the leg is said of the line.
unfoldable pub along_of : Map → GivenPoint → PointAlong
along_of m p =
    let start = node_at m (line_at m p.line).start in
    record {
      lon = lon_code start;
      lat = lat_code start;
      orientation = p.orientation;
      point = point_of m (own_leg p);
      side = p.side;
      arrives = arriving m p.line;
      offset = offset_of (line_at m p.line).length p.offset;
    }

-- And its bytes.
unfoldable pub given_bytes : Map → GivenPoint → List ℕ
given_bytes m p = point_along_bytes (along_of m p)

-- The differences of the line's ends fit 16 bits, and the line is the only reading of its leg, which is a last one: its arrival counts.
abbrev pub GoodLine : Map → GivenPoint → Type 0
GoodLine m p = Good m true (own_leg p)

-- An outcome of the writer of points.
pub data PointWriteOutcome : Type 0 where
  written : List ℕ → PointWriteOutcome
  refused : Refused → PointWriteOutcome

-- On a map, for a point that is not refused as given: "10 is given if their differences do not fit 16 bits or the line is not the leg's only reading",
-- 11, or accepted.
pub data PointWriteOn (m : Map) (p : GivenPoint) (room : ℕ) : PointWriteOutcome → Type 0 where
  not_good : (GoodLine m p → ⊥) → PointWriteOn m p room (PointWriteOutcome.refused (row 10))
  no_room : GoodLine m p → room < length (given_bytes m p) → PointWriteOn m p room (PointWriteOutcome.refused (row 11))
  accepted : GoodLine m p → length (given_bytes m p) ≤ room → PointWriteOn m p room (PointWriteOutcome.written (given_bytes m p))

-- A point as given, refused with 7 ("no such line"), 9 (the offset is not below the line's length) or 25 ("after 9"), or not.
pub data PointCheck : Type 0 where
  passes : PointCheck
  refused : Refused → PointCheck

unfoldable pub check_point : Map → GivenPoint → PointCheck
check_point m p =
    cond (leb (length m.lines) p.line) (refused (row 7))
    (cond (leb (line_at m p.line).length p.offset) (refused (row 9))
    (cond (ltb greatest_mark p.orientation || ltb greatest_mark p.side) (refused (row 25)) passes))

-- Row by row: the point as given after the map after the work area.
abbrev pub PointWriteChecked : Map → GivenPoint → PointCheck → ℕ → PointWriteOutcome → Type 0
PointWriteChecked m p passes room o = PointWriteOn m p room o
PointWriteChecked m p (PointCheck.refused r) room o = o ≡ PointWriteOutcome.refused r

abbrev pub PointWriteMap : MapAnswer → GivenPoint → ℕ → PointWriteOutcome → Type 0
PointWriteMap answer p room o = OnMap PointWriteOutcome.refused (λ m. PointWriteChecked m p (check_point m p) room) answer o

-- The writer's outcome for map bytes, a point as given, a work area of `work` numbers and a byte buffer of `room` bytes.
abbrev pub PointWrites : List ℕ → GivenPoint → ℕ → ℕ → PointWriteOutcome → Type 0
PointWrites mb p work room o = Opens PointWriteOutcome.refused (λ m. PointWriteChecked m p (check_point m p) room) mb work o

-- ---- the calls

-- The line buffer after a call: the lines "stand first", and "a refusal leaves" it "unchanged" (paper 01, "Refused, by place", last paragraph).
unfoldable pub point_lines_after : PointReadOutcome → List ℕ → List ℕ
point_lines_after (read ls span orientation side) lines = placed ls lines
point_lines_after (PointReadOutcome.refused r) lines = lines

unfoldable pub point_bytes_after : PointWriteOutcome → List ℕ → List ℕ
point_bytes_after (PointWriteOutcome.written bs) bytes = placed bs bytes
point_bytes_after (PointWriteOutcome.refused r) bytes = bytes

-- The reader answers the count of lines, the span, the orientation and the side, or the refusal; the writer the count of bytes, or the refusal.
pub data PointReadAnswers : PointReadAnswer → PointReadOutcome → Type 0 where
  lines : {ls : List ℕ} {span : Span} {orientation side : ℕ} →
      PointReadAnswers (Ok (point_read (length ls) span orientation side)) (read ls span orientation side)
  refusal : {why : Refusal} → PointReadAnswers (Err why) (PointReadOutcome.refused (refusal_of why))

pub data PointWriteAnswers : PointWriteAnswer → PointWriteOutcome → Type 0 where
  bytes : {bs : List ℕ} → PointWriteAnswers (Ok (length bs)) (PointWriteOutcome.written bs)
  refusal : {why : Refusal} → PointWriteAnswers (Err why) (PointWriteOutcome.refused (refusal_of why))

abbrev pub PointReadAnswered : (PointReadOutcome → Type 0) → List ℕ → List ℕ → PointReadAnswer → Type 0
PointReadAnswered Asks before after a = Answered PointReadAnswers point_lines_after Asks before after a

abbrev pub PointWriteAnswered : (PointWriteOutcome → Type 0) → List ℕ → List ℕ → PointWriteAnswer → Type 0
PointWriteAnswered Asks before after a = Answered PointWriteAnswers point_bytes_after Asks before after a

-- A call that reads a point: its answer, and the work area and the line buffer before and after it.
pub record PointReadCall (mb ref work before : List ℕ) (a : PointReadAnswer) (work' after : List ℕ) : Type 0 where
  pub called : Called PointReadAnswers point_lines_after (PointReads mb ref (length work) (length before)) work work' before after a

-- A call that writes one: its answer, and the work area and the byte buffer before and after it.
pub record PointWriteCall (mb : List ℕ) (p : GivenPoint) (work before : List ℕ) (a : PointWriteAnswer) (work' after : List ℕ) : Type 0 where
  pub called : Called PointWriteAnswers point_bytes_after (PointWrites mb p (length work) (length before)) work work' before after a

-- A point by its parts, as a caller gives them.
abbrev pub point_given : ℕ → ℕ → ℕ → ℕ → GivenPoint
point_given line offset orientation side = record { line = line; offset = offset; orientation = orientation; side = side }
