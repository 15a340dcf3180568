-- "Read back on the same map, with a full work area and a line buffer that is not empty, what a user wrote gives that one line, orientation and side, and the
-- offset lies in the span" (W5), proved; nothing else fits the bytes, and two points with equal bytes are alike.
use Prim.Native.Nat.{ℕ, ◌+◌, ◌≤◌, ◌<◌}
use mathlib.Core.Path.{◌≡◌, refl, sym, ◌∙◌, ap, subst}
use mathlib.Core.Bool.{true}
use mathlib.Core.List.{List, [], ◌∷◌}
use native.Mathlib.Omega.{arith}
use lib.ListN.{length}
use borrow.Author.Tests.{le-ltb, ne_eqb}
use Rattle.model.specs.declared.Span.{Span}
use Rattle.model.specs.Map.{Map}
use Rattle.model.specs.Lines.{line_at, total, first_of, last_of}
use Rattle.model.specs.Reference.{offset_bytes}
use Rattle.model.specs.Reading.{Leg, Reading, joined, banned_meeting}
use Rattle.model.specs.Stretch.{some_pair}
use Rattle.model.specs.Choice.{from_node, leg_of, good, Usable, final, first_leg, last_leg, points_of, offset_of, reference_of}
use Rattle.model.specs.Locate.{located, locate}
use Rattle.model.specs.Span.{SpanRead}
use Rattle.model.specs.Outcome.{SpansRead, ReadOutcome, ReadEnd, ReadOn}
use Rattle.model.specs.Work.{work_length}
use Rattle.model.specs.WellFormed.{WellFormed}
use Rattle.model.specs.Demand3.{Within}
use Rattle.model.specs.PointAlong.{shortest_point, longest_point, PointAlong, parsed, parse_point, line_reference, read, PointReadOn, PointReads, GivenPoint, own_leg, along_of, given_bytes, written, PointWrites}
use Rattle.model.specs.PointTrip.{FitsPoint, PointReadAs, PointBack, PointsAlike, PointTrip}
use Rattle.model.proofs.Decoded.{well_formed}
use Rattle.model.proofs.Every.{Every, also, Byte}
use Rattle.model.proofs.Legs.{legs_of, sole, legs_read}
use Rattle.model.proofs.Spans.{stated, within}
use Rattle.model.proofs.Bytes.{PointFits, Fitting}
use Rattle.model.proofs.Points.{locate_back}
use Rattle.model.proofs.Composed.{fitting, spans}
use Rattle.model.proofs.Demand3.{apart}
use Rattle.model.proofs.PointBytes.{AlongFits, point_parse_back, point_bytes_small, point_size, point_length}
use Rattle.model.proofs.PointReading.{point_reads_once}
use Rattle.model.proofs.PointWriting.{PointWritten, point_written_of}

-- The line alone, as the legs of a stretch of one line.
abbrev own_legs : GivenPoint → List (List ℕ)
own_legs p = own_leg p ∷ []

-- Its length, and the reference that the writer of stretches would give it: the points, the leg and the offset are the same.
pub own_length : (m : Map) (p : GivenPoint) → total m (own_leg p) ≡ (line_at m p.line).length
unfolding total
own_length m p = omega arith

pub as_stretch : (m : Map) (p : GivenPoint) → line_reference (along_of m p) ≡ reference_of m (own_legs p) p.offset 0
unfolding line_reference along_of reference_of points_of first_leg last_leg first_of last_of from_node offset_of
as_stretch m p = rw (own_length m p)

module _ (m : Map) (mb bytes : List ℕ) (p : GivenPoint) (k : PointWritten m mb p bytes) where
  abbrev along : PointAlong
  along = along_of m p

  usable : Usable (good m) 0 (own_legs p)
  usable = final k.good_line

  formed : WellFormed m
  formed = well_formed m mb k.decodes

  inside : p.offset < total m (own_leg p)
  inside = omega (arith, own_length m p, k.taken_so.inside)

  fitted : Fitting (line_reference along)
  unfolding first_leg last_leg
  fitted = rw (as_stretch m p) (fitting formed (own_legs p) usable p.offset 0 inside (omega (arith, inside)) (omega arith))

  along_fits : AlongFits along
  unfolding line_reference along_of
  along_fits =
      record {
        lon = fitted.lon;
        lat = fitted.lat;
        orientation = k.taken_so.orientation;
        point = one fitted.points;
        side = k.taken_so.side;
        arrives = fitted.arrives;
        offset = fitted.pos;
      }
    where
      one : Every PointFits (along.point ∷ []) → PointFits along.point
      one (also f fs) = f

  parses : parse_point bytes ≡ parsed along
  unfolding given_bytes
  parses = rw k.same (point_parse_back along along_fits)

  abbrev leg : Leg
  leg = leg_of m true (own_leg p)

  locates : locate m (line_reference along) ≡ located (leg ∷ [])
  unfolding joined some_pair legs_of
  locates = rw (as_stretch m p) (locate_back formed (own_legs p) p.offset 0 usable refl)

  some_spans : (pos neg : Span) × SpansRead m (line_reference along) (own_legs p) pos neg × (pos.least + neg.least < total m (joined (own_legs p)))
  unfolding joined first_leg last_leg
  some_spans = rw (as_stretch m p) (spans formed (own_legs p) usable p.offset 0 inside (omega (arith, inside)) (omega (arith, inside)))

  reads_back : PointReadAs mb bytes p some_spans.0
  unfolding joined banned_meeting legs_of along_of
  reads_back =
      let take : (work room : ℕ) → work_length ≤ work → 0 < room →
      PointReads mb bytes work room (read (own_leg p) some_spans.0 p.orientation p.side) =
      λ work room full some.
      let enough : length (joined (own_legs p)) ≤ room = omega (arith, some) in
      let end : ReadEnd m (line_reference along) room (own_legs p) (ReadOutcome.read (joined (own_legs p)) some_spans.0 some_spans.1) =
      ReadEnd.accepted some_spans.2 some_spans.3 enough in
      rw (le-ltb work work_length full, k.decodes, parses) (PointReadOn.accepted (ReadOn.every_leg locates (legs_read (sole usable)) end)) in
      record {
        accepts = take;
        nothing_else = λ work room o full some h. point_reads_once mb bytes room work h (take work room full some);
      }

  holds : Within p.offset some_spans.0 (line_at m p.line).length
  unfolding line_reference along_of first_leg
  holds =
      let read_so = subst (λ (n : ℕ). SpanRead n along.offset some_spans.0) (own_length m p) some_spans.2.pos_read in
      within k.taken_so.inside (stated _ _ k.taken_so.inside) read_so

  fits : FitsPoint m bytes (own_leg p) p.orientation p.side
  unfolding along_of
  fits =
      record {
        along = along;
        leg = leg;
        parses = parses;
        locates = locates;
        reading = k.good_line.only.reading;
        oriented = refl;
        sided = refl;
      }

  only : (lines : List ℕ) (orientation side : ℕ) → FitsPoint m bytes lines orientation side →
      (lines ≡ own_leg p) × (orientation ≡ p.orientation) × (side ≡ p.side)
  unfolding along_of
  only lines orientation side f =
      let same : f.along ≡ along = cc (parses, f.parses) in
      let legs : f.leg ≡ leg = cc (locates, f.locates) in
      (k.good_line.only.only lines (subst (λ (l : Leg). Reading m l lines) legs f.reading), sym f.oriented ∙ ap (λ (a : PointAlong). a.orientation) same, sym f.sided ∙ ap (λ (a : PointAlong). a.side) same)

  point_back : PointBack mb p bytes
  point_back =
      record { map = m; decodes = k.decodes; span = some_spans.0; reads = reads_back; holds = holds; fits = fits; only = only }

module _ (m : Map) (mb bytes : List ℕ) (p q : GivenPoint) (k : PointWritten m mb p bytes) (j : PointWritten m mb q bytes) where
  points_alike : PointsAlike mb bytes p q
  points_alike =
      let a = reads_back m mb bytes p k in
      let b = reads_back m mb bytes q j in
      let same = a.nothing_else work_length 1 _ (omega arith) (omega arith) (b.accepts work_length 1 (omega arith) (omega arith)) in
      let spans-same : (some_spans m mb bytes q j).0 ≡ (some_spans m mb bytes p k).0 = cc in
      record {
        map = m;
        decodes = k.decodes;
        line = sym cc;
        orientation = sym cc;
        side = sym cc;
        span = (some_spans m mb bytes p k).0;
        reads = a;
        near = apart (holds m mb bytes p k) (rw spans-same at (holds m mb bytes q j));
      }

pub point_trip : PointTrip
point_trip =
    record {
      back = λ mb bytes p work room writes.
          let k = point_written_of mb bytes p room work writes in
          point_back k.0 mb bytes p k.1;
      alike = λ mb bytes p q work work' room room' writes writes'.
          let k = point_written_of mb bytes p room work writes in
          let j = point_written_of mb bytes q room' work' writes' in
          let same : j.0 ≡ k.0 = cc (k.1.decodes, j.1.decodes) in
          points_alike k.0 mb bytes p q k.1 (subst (λ m. PointWritten m mb q bytes) same j.1);
    }

-- What is written are bytes, "16 or 17": 16 where the offset is 0, else 17.
pub point_written_bytes : (mb bytes : List ℕ) (p : GivenPoint) (work room : ℕ) → PointWrites mb p work room (written bytes) → Every Byte bytes
unfolding given_bytes
point_written_bytes mb bytes p work room writes =
    let k = point_written_of mb bytes p room work writes in
    rw k.1.same (point_bytes_small (along_of k.0 p) (along_fits k.0 mb bytes p k.1))

pub given_size : (m : Map) (p : GivenPoint) → (p.offset ≡ 0 → length (given_bytes m p) ≡ shortest_point) × (0 < p.offset → length (given_bytes m p) ≡ longest_point)
unfolding given_bytes along_of offset_of offset_bytes
given_size m p =
    (λ e. point_size (along_of m p) ∙ rw e refl, λ h. point_size (along_of m p) ∙ rw (ne_eqb p.offset 0 (omega (arith, h))) refl)

pub point_written_size : (mb bytes : List ℕ) (p : GivenPoint) (work room : ℕ) → PointWrites mb p work room (written bytes) →
    (p.offset ≡ 0 → length bytes ≡ shortest_point) × (0 < p.offset → length bytes ≡ longest_point)
point_written_size mb bytes p work room writes =
    let k = point_written_of mb bytes p room work writes in
    rw k.1.same (given_size k.0 p)

pub point_written_few : (mb bytes : List ℕ) (p : GivenPoint) (work room : ℕ) → PointWrites mb p work room (written bytes) →
    (shortest_point ≤ length bytes) × (length bytes ≤ longest_point)
unfolding given_bytes
point_written_few mb bytes p work room writes =
    let k = point_written_of mb bytes p room work writes in
    rw k.1.same (point_length (along_of k.0 p) (along_fits k.0 mb bytes p k.1))
