-- "A span's ends, and two stretches with equal bytes, then differ by less than three 512ths of the leg" (W6): of whatever bytes the readers accept, `read_ends`
-- and `point_read_ends`; of two stretches, `stretches_close`, and of two points, `points_close`.
use Prim.Native.Nat.{ℕ, ◌<◌}
use mathlib.Core.Path.{◌≡◌}
use mathlib.Core.List.{List, ◌∷◌}
use native.Mathlib.Omega.{arith}
use Rattle.model.specs.declared.Span.{Span}
use Rattle.model.specs.Refusal.{Refused}
use Rattle.model.specs.Map.{Map, whole, decode}
use Rattle.model.specs.Lines.{line_at, Connected, total}
use Rattle.model.specs.Reference.{Reference, parsed, parse}
use Rattle.model.specs.Reading.{joined}
use Rattle.model.specs.Stretch.{Stretch, remaining}
use Rattle.model.specs.Choice.{first_leg, last_leg}
use Rattle.model.specs.Outcome.{SpansRead, read, Reads, written, Writes}
use Rattle.model.specs.PointAlong.{PointReadOutcome, parse_point, PointReadParsed, PointReads, GivenPoint, PointWriteOutcome, PointWrites}
use Rattle.model.specs.Demand3.{ChosenBy, Close}
use Rattle.model.specs.WellFormed.{WellFormed}
use Rattle.model.proofs.Every.{Every, none, also}
use Rattle.model.proofs.Decoded.{well_formed}
use Rattle.model.proofs.Joining.{first_length, first_ok}
use Rattle.model.proofs.Spans.{ends_close}
use Rattle.model.proofs.Opened.{opened}
use Rattle.model.proofs.Outcomes.{accepted_of, of_legs}
use Rattle.model.proofs.Demand3.{demand3}
use Rattle.model.proofs.PointReading.{HandedBack, handed_back}
use Rattle.model.proofs.PointTrip.{point_trip}

-- No leg has the length 0.
module _ {m : Map} (w : WellFormed m) where
  long : {ls : List ℕ} → Connected m ls → 0 < total m ls
  long c = omega (arith, first_length c, (first_ok w c).some)

  last_long : {ls : List ℕ} {lss : List (List ℕ)} → Every (Connected m) (ls ∷ lss) → 0 < total m (last_leg (ls ∷ lss))
  unfolding last_leg
  last_long (also c none) = long c
  last_long (also c (also d cs)) = last_long (also d cs)

  legs_long : {lss : List (List ℕ)} → Every (Connected m) lss → 0 < total m (joined lss) → (0 < total m (first_leg lss)) × (0 < total m (last_leg lss))
  unfolding joined first_leg last_leg
  legs_long none h = (h, h)
  legs_long (also c cs) h = (long c, last_long (also c cs))

-- Whatever bytes the reader accepts: its spans are those of the reference on the first and on the last leg, and their ends are close there.
pub record ReadEnds (mb bytes ls : List ℕ) (pos neg : Span) : Type 0 where
  pub map : Map
  pub decodes : decode mb ≡ whole map
  pub reference : Reference
  pub parses : parse bytes ≡ parsed reference
  pub legs : List (List ℕ)
  pub lines : ls ≡ joined legs
  pub spans : SpansRead map reference legs pos neg
  pub pos_ends : Close pos.least pos.greatest (total map (first_leg legs))
  pub neg_ends : Close neg.least neg.greatest (total map (last_leg legs))

pub read_ends : (mb bytes : List ℕ) (work room : ℕ) (ls : List ℕ) (pos neg : Span) → Reads mb bytes work room (read ls pos neg) →
    ReadEnds mb bytes ls pos neg
read_ends mb bytes work room ls pos neg h =
    let a = accepted_of mb bytes room ls pos neg work h in
    let of = of_legs a.0 a.1.reference room ls pos neg a.1.on_map in
    let longs = legs_long (well_formed a.0 mb a.1.decodes) of.connected (omega (arith, of.below)) in
    record {
      map = a.0;
      decodes = a.1.decodes;
      reference = a.1.reference;
      parses = a.1.parses;
      legs = of.legs;
      lines = of.lines;
      spans = of.spans;
      pos_ends = ends_close longs.0 of.spans.pos_read;
      neg_ends = ends_close longs.1 of.spans.neg_read;
    }

-- Whatever bytes the reader of points accepts: what it hands back, and the span's ends are close on those lines, which are the leg.
pub record PointReadEnds (mb bytes : List ℕ) (room : ℕ) (ls : List ℕ) (span : Span) (orientation side : ℕ) : Type 0 where
  pub map : Map
  pub decodes : decode mb ≡ whole map
  pub handed : HandedBack map bytes room ls span orientation side
  pub ends : Close span.least span.greatest (total map ls)

not_read : {ls : List ℕ} {span : Span} {orientation side : ℕ} {r : Refused} → PointReadOutcome.read ls span orientation side ≡ PointReadOutcome.refused r → ⊥
not_read e = let z : ◌≡◌ {A = ℕ} 0 1 = cc in omega arith

pub point_read_ends : (mb bytes : List ℕ) (work room : ℕ) (ls : List ℕ) (span : Span) (orientation side : ℕ) →
    PointReads mb bytes work room (PointReadOutcome.read ls span orientation side) → PointReadEnds mb bytes room ls span orientation side
point_read_ends mb bytes work room ls span orientation side h =
    let g = opened PointReadOutcome.refused (λ m. PointReadParsed m (parse_point bytes) room) mb (λ r. not_read) work h in
    let b = handed_back g.0 bytes room ls span orientation side g.2 in
    record {
      map = g.0;
      decodes = g.1;
      handed = b;
      ends = ends_close (long (well_formed g.0 mb g.1) b.only.reading.allowed.connected) b.span_read;
    }

-- Two stretches with equal bytes: both are cut into the same legs, and each offset is close to the same offset of the other on its own leg.
pub record StretchesClose (mb : List ℕ) (s t : Stretch) (tests tests' : ℕ) : Type 0 where
  pub map : Map
  pub decodes : decode mb ≡ whole map
  pub legs : List (List ℕ)
  pub one : ChosenBy map (remaining map s).lines tests legs
  pub other : ChosenBy map (remaining map t).lines tests' legs
  pub pos : Close (remaining map s).pos (remaining map t).pos (total map (first_leg legs))
  pub neg : Close (remaining map s).neg (remaining map t).neg (total map (last_leg legs))

pub stretches_close : (mb bytes : List ℕ) (s t : Stretch) (tests tests' work work' room room' made made' excess excess' : ℕ) →
    Writes mb s tests work room (written bytes made excess) → Writes mb t tests' work' room' (written bytes made' excess') →
    StretchesClose mb s t tests tests'
stretches_close mb bytes s t tests tests' work work' room room' made made' excess excess' h h' =
    let a = demand3.alike mb bytes s t tests tests' work work' room room' made made' excess excess' h h' in
    record {
      map = a.map;
      decodes = a.decodes;
      legs = a.legs;
      one = a.chosen;
      other = a.chosen_too;
      pos = a.near_pos.close;
      neg = a.near_neg.close;
    }

-- Two points with equal bytes are on the same line, and their offsets are close there.
pub record PointsClose (mb : List ℕ) (p q : GivenPoint) : Type 0 where
  pub map : Map
  pub decodes : decode mb ≡ whole map
  pub line : p.line ≡ q.line
  pub offset : Close p.offset q.offset (line_at map p.line).length

pub points_close : (mb bytes : List ℕ) (p q : GivenPoint) (work work' room room' : ℕ) → PointWrites mb p work room (PointWriteOutcome.written bytes) →
    PointWrites mb q work' room' (PointWriteOutcome.written bytes) → PointsClose mb p q
points_close mb bytes p q work work' room room' h h' =
    let a = point_trip.alike mb bytes p q work work' room room' h h' in
    record { map = a.map; decodes = a.decodes; line = a.line; offset = a.near.close }
