-- Worked cases of W5: the white paper's point along line (document 000, 13.2.3), field by field; the shapes that are refused; a hydrant on the ridge.
use Prim.Native.Nat.{ℕ, ◌≤◌}
use mathlib.Core.Path.{◌≡◌, refl}
use mathlib.Core.Bool.{true}
use mathlib.Core.List.{List, [], ◌∷◌, ◌++◌, map}
use native.Mathlib.Omega.{arith}
use lib.ListN.{take, replicate}
use borrow.Author.Tests.{le-ltb}
use Rattle.model.specs.declared.Span.{Span}
use Rattle.model.specs.Refusal.{row, row_at}
use Rattle.model.specs.Map.{Map, whole, decode}
use Rattle.model.specs.Field.{code, distance, offset_byte}
use Rattle.model.specs.Reference.{absent, byte}
use Rattle.model.specs.Reading.{Only}
use Rattle.model.specs.Choice.{leg_of, Good}
use Rattle.model.specs.Span.{SpanRead, unflagged}
use Rattle.model.specs.Outcome.{LegsRead, SpansRead, ReadEnd, ReadOn}
use Rattle.model.specs.Work.{work_length}
use Rattle.model.specs.Host.{host_point, host_point_lines_after, host_point_written}
use Rattle.model.specs.PointAlong.{no_orientation, both_directions, left_side, right_side, PointAlong, point_along_bytes, PointParse, parsed, parse_point, line_reference, PointReadOutcome, read, PointReadOn, PointReads, GivenPoint, along_of, point_given, PointCheck, passes, check_point, PointWriteOutcome, written, PointWriteOn, PointWrites, point_bytes_after}
use Rattle.model.proofs.Cases.Computing.{computing}
use Rattle.model.proofs.Cases.Ways.{finding, connects}
use Rattle.model.proofs.Cases.Legs.{sole}
use Rattle.model.proofs.Cases.Edges.{spanned}
use Rattle.model.proofs.Cases.Ridge.{map_bytes, ridge, road, on_the_ridge}
use Rattle.model.proofs.Cases.Tie.{none}
use Rattle.model.proofs.Cases.RidgeCalls.{top, top_only}

-- The bytes of its Base64 string. Its Table 110 prints 54 for R where they have 43, which is the sector of the bearing that is meant.
abbrev bytes : List ℕ
bytes =
    0x2B ∷ 0x04 ∷ 0x5B ∷ 0xA0 ∷ 0x23 ∷ 0x46 ∷ 0x7E ∷ 0x12 ∷ 0x51 ∷ 0x01 ∷ 0xFF ∷ 0xCE ∷ 0xFF ∷ 0xB4 ∷ 0x92 ∷ 0x43 ∷ 0x4D ∷ []

-- FRC 2, FOW 2 and sector 17, lowest FRC 2, D 1, 50 west and 76 south; FRC 2, FOW 2 and sector 3 at the end; no orientation, the left side, and offset byte 77.
abbrev fields : PointAlong
fields =
    record {
      lon = 0x045BA0;
      lat = 0x23467E;
      orientation = no_orientation;
      point =
          record {
            leaves = record { frc = 2; fow = 2; sector = 17 };
            lowest = 2;
            distance = 1;
            next = record { lon = 65_486; lat = 65_460 };
          };
      side = left_side;
      arrives = record { frc = 2; fow = 2; sector = 3 };
      offset = byte 77;
    }

-- The same with other marks, and without an offset.
abbrev marked : ℕ → ℕ → PointAlong
marked orientation side =
    record { lon = fields.lon; lat = fields.lat; orientation = orientation; point = fields.point; side = side; arrives = fields.arrives; offset = absent }

abbrev marked_bytes : ℕ → ℕ → List ℕ
marked_bytes first last =
    0x2B ∷ 0x04 ∷ 0x5B ∷ 0xA0 ∷ 0x23 ∷ 0x46 ∷ 0x7E ∷ first ∷ 0x51 ∷ 0x01 ∷ 0xFF ∷ 0xCE ∷ 0xFF ∷ 0xB4 ∷ last ∷ 0x03 ∷ []

-- So many bytes with this status, this P twice and this R, zeros besides.
abbrev shape : ℕ → ℕ → ℕ → ℕ → List ℕ
shape count status p r = take count (status ∷ replicate 6 0 ++ p ∷ replicate 6 0 ++ p ∷ r ∷ 0 ∷ 0 ∷ [])

-- All of these bytes are refused so.
abbrev Refuses : ℕ → List (List ℕ) → Type 0
Refuses n bss = map parse_point bss ≡ map (λ bs. PointParse.refused (row n)) bss

-- All of these points are refused so on the ridge, as they are given.
abbrev Checks : ℕ → List GivenPoint → Type 0
Checks n ps = map (check_point ridge) ps ≡ map (λ p. PointCheck.refused (row n)) ps

pub record PointCases : Type 0 where
  pub taken_apart : parse_point bytes ≡ parsed fields
  pub put_together : point_along_bytes fields ≡ bytes
  -- The values of its text: latitude 49.60597, and longitude 6.12829, whose code by its own equation is one less than in the bytes; 92 m, and 28 m of them. 256 ×
  -- 2,800 ÷ 9,200 is 77.9: it cuts that to 77, and what is written now is 78 (W6). Byte 77 is 2,750 to 2,785 then, without the 2,800.
  pub codes : code 18_000_000 18_612_829 ∷ code 9_000_000 13_960_597 ∷ [] ≡ 0x045B9F ∷ 0x23467E ∷ []
  pub values : distance 9_200 ∷ offset_byte 9_200 2_800 ∷ [] ≡ 1 ∷ 78 ∷ []
  pub its_span : SpanRead 9_200 (byte 77) (record { least = 2_750; greatest = 2_785 })
  -- Orientation and side in bits 7 and 6 of their own P, each number in its place. P's bits are never refused.
  pub marks : map (λ x. point_along_bytes (marked x left_side)) (0 ∷ 1 ∷ 2 ∷ 3 ∷ []) ≡
      marked_bytes 0x12 0x92 ∷ marked_bytes 0x52 0x92 ∷ marked_bytes 0x92 0x92 ∷ marked_bytes 0xD2 0x92 ∷ []
  pub sides : map (λ x. parse_point (marked_bytes 0x12 x)) (0x12 ∷ 0x52 ∷ 0x92 ∷ 0xD2 ∷ []) ≡
      map (λ x. parsed (marked no_orientation x)) (0 ∷ 1 ∷ 2 ∷ 3 ∷ [])
  -- No byte, 15 and 18 bytes; 12 before 13.
  pub lengths : Refuses 12 ([] ∷ shape 15 0x2B 0 0 ∷ shape 18 0x2B 0 0 ∷ shape 18 0x0B 0 0 ∷ [])
  -- A line reference's status, and others; 13 before 14.
  pub statuses : Refuses 13 (shape 16 0x0B 0 0 ∷ shape 17 0x0B 0 64 ∷ shape 16 0x2A 0 0 ∷ shape 16 0x23 0 0 ∷ shape 16 0xAB 0 128 ∷ [])
  -- R's bit 7, its negative flag, both; 14 before 15.
  pub zero_bits : Refuses 14 (shape 16 0x2B 0 128 ∷ shape 16 0x2B 0 32 ∷ shape 17 0x2B 0 96 ∷ shape 17 0x2B 0xFF 0xFF ∷ shape 16 0x2B 0 0xC0 ∷ [])
  -- A positive flag without its byte, and a byte without its flag.
  pub flag_counts : Refuses 15 (shape 16 0x2B 0 64 ∷ shape 17 0x2B 0xFF 31 ∷ [])
  -- As given: line 2 is 5,000 long. 7 before 9 before 25; 3 is the greatest mark.
  pub no_line : Checks 7 (point_given 4 0 0 0 ∷ point_given 4_294_967_295 5_000 4 4 ∷ [])
  pub outside : Checks 9 (point_given 2 5_000 0 0 ∷ point_given 2 4_294_967_295 4 4 ∷ [])
  pub over_3 : Checks 25 (point_given 2 4_999 4 0 ∷ point_given 2 0 0 4 ∷ point_given 2 0 4_294_967_295 3 ∷ [])
  -- What a C host gets: a line, its span and its marks; a refusal with its point. The line stands in four bytes, low byte first.
  pub host_told : host_point (read (300 ∷ []) (record { least = 120; greatest = 121 }) both_directions right_side) ≡
      record { refusal = 0; place = 0; lines = 1; least = 120; greatest = 121; orientation = 3; side = 1 }
  pub host_refused : host_point (PointReadOutcome.refused (row_at 16 1)) ≡
      record { refusal = 16; place = 1; lines = 0; least = 0; greatest = 0; orientation = 0; side = 0 }
  pub host_lines : host_point_lines_after (read (300 ∷ []) (record { least = 0; greatest = 0 }) 0 0) (9 ∷ 9 ∷ 9 ∷ 9 ∷ 9 ∷ []) ≡
      0x2C ∷ 0x01 ∷ 0 ∷ 0 ∷ 9 ∷ []
  pub host_written_lem : map host_point_written (PointWriteOutcome.refused (row 10) ∷ written (7 ∷ 8 ∷ 9 ∷ []) ∷ []) ≡
      record { refusal = 10; bytes = 0 } ∷ record { refusal = 0; bytes = 3 } ∷ []
  pub byte_buffers : map (λ o. point_bytes_after o (7 ∷ 8 ∷ 9 ∷ [])) (written (1 ∷ []) ∷ PointWriteOutcome.refused (row 11) ∷ []) ≡
      (1 ∷ 8 ∷ 9 ∷ []) ∷ (7 ∷ 8 ∷ 9 ∷ []) ∷ []
  pub taken : map (check_point ridge) (point_given 2 4_999 3 3 ∷ point_given 3 0 0 0 ∷ []) ≡ passes ∷ passes ∷ []

pub point_cases : PointCases
unfolding computing
point_cases =
    record {
      taken_apart = refl;
      put_together = refl;
      codes = refl;
      values = refl;
      its_span = spanned 9_200 77 2_750 2_785 (omega arith) (omega arith) (λ o g. omega arith);
      marks = refl;
      sides = refl;
      lengths = refl;
      statuses = refl;
      zero_bits = refl;
      flag_counts = refl;
      no_line = refl;
      outside = refl;
      over_3 = refl;
      host_told = refl;
      host_refused = refl;
      host_lines = refl;
      host_written_lem = refl;
      byte_buffers = refl;
      taken = refl;
    }

-- ---- a hydrant on the ridge: on line 2, which runs north from node 1, 12 m from its start and on its right side

abbrev pub hydrant : GivenPoint
hydrant = point_given 2 1_200 no_orientation right_side

-- Longitude 1000 has code 466; D is 0, as 50 m are under 58.6; P is 3 × 8 + 3, the last one with 64 for the right side; R has the flag and sector 16; 256 ×
-- 1,200 ÷ 5,000 is 61.4.
abbrev pub hydrant_bytes : List ℕ
hydrant_bytes =
    0x2B ∷ 0 ∷ 0x01 ∷ 0xD2 ∷ 0 ∷ 0 ∷ 0 ∷ 0x1B ∷ 0x60 ∷ 0 ∷ 0 ∷ 0 ∷ 0x03 ∷ 0xE8 ∷ 0x5B ∷ 0x50 ∷ 0x3D ∷ []

-- Two centimetres further along, 256 × 1,202 ÷ 5,000 is 61.54: 62, and not 61 (W6).
abbrev pub next_hydrant : GivenPoint
next_hydrant = point_given 2 1_202 no_orientation right_side

abbrev pub next_bytes : List ℕ
next_bytes = take 16 hydrant_bytes ++ 0x3E ∷ []

abbrev pub hydrant_span : Span
hydrant_span = record { least = 1_182; greatest = 1_201 }

hydrant_only : Only ridge (leg_of ridge true (2 ∷ [])) (2 ∷ [])
unfolding computing finding
hydrant_only = sole ridge (leg_of ridge true (2 ∷ [])) refl (2 ∷ []) (search (connects, arith)) refl refl

hydrant_good : Good ridge true (2 ∷ [])
unfolding computing
hydrant_good = record { fit = omega arith; only = hydrant_only }

abbrev pub top_point : List ℕ
top_point = 0x2B ∷ 0 ∷ 0x01 ∷ 0xD2 ∷ 0 ∷ 0 ∷ 0 ∷ 0xDB ∷ 0x60 ∷ 0x01 ∷ 0x03 ∷ 0xE8 ∷ 0 ∷ 0 ∷ 0x9B ∷ 0x18 ∷ []

abbrev top_along : PointAlong
top_along =
    record {
      lon = 466;
      lat = 0;
      orientation = both_directions;
      point = record { leaves = road 0; lowest = 3; distance = 1; next = record { lon = 1_000; lat = 0 } };
      side = left_side;
      arrives = road 24;
      offset = absent;
    }

-- The reader of points comes to the map and the point.
on_point_reads : (mb bytes : List ℕ) {m : Map} {a : PointAlong} (work room : ℕ) (o : PointReadOutcome) → work_length ≤ work → decode mb ≡ whole m →
    parse_point bytes ≡ parsed a → PointReadOn m a room o → PointReads mb bytes work room o
on_point_reads mb bytes work room o full d p h = rw (le-ltb work work_length full, d, p) h

module _ (work room : ℕ) (full : work_length ≤ work) where
  pub hydrant_written : 17 ≤ room → PointWrites map_bytes hydrant work room (written hydrant_bytes)
  unfolding computing
  hydrant_written fits = rw (le-ltb work work_length full) (PointWriteOn.accepted hydrant_good (omega arith))

  pub next_written : 17 ≤ room → PointWrites map_bytes next_hydrant work room (written next_bytes)
  unfolding computing
  next_written fits = rw (le-ltb work work_length full) (PointWriteOn.accepted hydrant_good (omega arith))

  pub hydrant_read : 1 ≤ room → PointReads map_bytes hydrant_bytes work room (read (2 ∷ []) hydrant_span no_orientation right_side)
  unfolding computing
  hydrant_read fits =
      let spans : SpansRead ridge (line_reference (along_of ridge hydrant)) ((2 ∷ []) ∷ []) hydrant_span none =
      record { pos_read = spanned 5_000 0x3D 1_182 1_201 (omega arith) (omega arith) (λ o g. omega arith); neg_read = unflagged } in
      on_point_reads map_bytes hydrant_bytes {a = along_of ridge hydrant} work room _ full on_the_ridge.map refl
      (PointReadOn.accepted
      (ReadOn.every_leg {legs = leg_of ridge true (2 ∷ []) ∷ []} refl (LegsRead.only hydrant_only LegsRead.none) (ReadEnd.accepted spans (omega arith) (omega arith))))

  -- A point that another writer may send: along lines 2 and 3, over the top, for both directions and on the left. The lines come back, however many.
  pub over_the_top_read : 2 ≤ room → PointReads map_bytes top_point work room (read (2 ∷ 3 ∷ []) none both_directions left_side)
  unfolding computing
  over_the_top_read fits =
      on_point_reads map_bytes top_point {a = top_along} work room _ full on_the_ridge.map refl
      (PointReadOn.accepted
      (ReadOn.every_leg {legs = top ∷ []} refl (LegsRead.only top_only LegsRead.none)
      (ReadEnd.accepted (record { pos_read = unflagged; neg_read = unflagged }) (omega arith) (omega arith))))

  -- One line short: 20.
  pub over_the_top_short : room ≤ 1 → PointReads map_bytes top_point work room (PointReadOutcome.refused (row 20))
  unfolding computing
  over_the_top_short short =
      on_point_reads map_bytes top_point {a = top_along} work room _ full on_the_ridge.map refl
      (PointReadOn.not_accepted
      (ReadOn.every_leg {legs = top ∷ []} refl (LegsRead.only top_only LegsRead.none)
      (ReadEnd.no_room (record { pos_read = unflagged; neg_read = unflagged }) (omega arith) (omega arith))))
