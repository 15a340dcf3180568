-- The map and the references of paper 01, "The tie at the ridge", "with lengths and offset tenfold" (W8), by computation.
use Prim.Native.Nat.{ℕ, ◌+◌}
use mathlib.Core.Path.{◌≡◌, refl}
use mathlib.Core.Bool.{true, false}
use mathlib.Core.List.{List, [], ◌∷◌}
use Rattle.model.specs.Map.{Node, Line, Map, whole, decode}
use Rattle.model.specs.Lines.{LineAttributes}
use Rattle.model.specs.Reference.{Offset, absent, byte, Point, Reference, parsed, parse}
use Rattle.model.specs.Stretch.{Stretch, remains, check_stretch}
use Rattle.model.specs.Reading.{Arrival, any, matching, Leg}
use Rattle.model.specs.Choice.{leg_of, stretch_bytes}
use Rattle.model.specs.Locate.{located, locate}
use Rattle.model.proofs.Cases.Computing.{computing}

-- "The ridge map takes steps of the same sectors" (W3): (200, 0) east, (-200, 0) west, (0, 200) north, (0, -200) south, (141, -141) for 135 degrees and
-- (-200, 7) for 272.
abbrev pub map_bytes : List ℕ
map_bytes =
    4
    ∷ 0x80 ∷ 0xD1 ∷ 0xCA ∷ 0x08 ∷ 0xC0 ∷ 0xA8 ∷ 0xA5 ∷ 0x04
    ∷ 0xE8 ∷ 0xD8 ∷ 0xCA ∷ 0x08 ∷ 0xC0 ∷ 0xA8 ∷ 0xA5 ∷ 0x04
    ∷ 0xE8 ∷ 0xD8 ∷ 0xCA ∷ 0x08 ∷ 0xA8 ∷ 0xB0 ∷ 0xA5 ∷ 0x04
    ∷ 0xD0 ∷ 0xE0 ∷ 0xCA ∷ 0x08 ∷ 0xC0 ∷ 0xA8 ∷ 0xA5 ∷ 0x04
    ∷ 4
    ∷ 0 ∷ 1 ∷ 0x90 ∷ 0x4E ∷ 3 ∷ 3 ∷ 0xC2 ∷ 0x03 ∷ 0xFA ∷ 0x01 ∷ 50 ∷ 0xFA ∷ 0x01
    ∷ 1 ∷ 3 ∷ 0x90 ∷ 0x4E ∷ 3 ∷ 3 ∷ 0xC2 ∷ 0x03 ∷ 0xFA ∷ 0x01 ∷ 50 ∷ 0xFA ∷ 0x01
    ∷ 1 ∷ 2 ∷ 0x88 ∷ 0x27 ∷ 3 ∷ 3 ∷ 0xFA ∷ 0x01 ∷ 0xC2 ∷ 0x03 ∷ 0xFA ∷ 0x01 ∷ 50
    ∷ 2 ∷ 3 ∷ 0x88 ∷ 0x27 ∷ 3 ∷ 3 ∷ 0x87 ∷ 0x03 ∷ 109 ∷ 50 ∷ 0x81 ∷ 0x02
    ∷ 0
    ∷ []

-- A node so far east and north of longitude 0 and latitude 0.
abbrev pub node : ℕ → ℕ → Node
node east north = record { lon = 18_000_000 + east; lat = 9_000_000 + north }

-- A line of FRC 3 and FOW 3, by its sectors.
abbrev pub line : ℕ → ℕ → ℕ → ℕ → ℕ → Line
line start end length out back = record { start = start; end = end; length = length; frc = 3; fow = 3; out = out; back = back }

abbrev pub ridge : Map
ridge =
    record {
      nodes = node 0 0 ∷ node 1_000 0 ∷ node 1_000 1_000 ∷ node 2_000 0 ∷ [];
      lines = line 0 1 10_000 8 24 ∷ line 1 3 10_000 8 24 ∷ line 1 2 5_000 0 16 ∷ line 2 3 5_000 12 24 ∷ [];
      bans = [];
    }

-- The paper's three references: three points, the same with positive offset 5,000, and two points.
abbrev pub three_points : List ℕ
three_points =
    0x0B ∷ 0 ∷ 0 ∷ 0 ∷ 0 ∷ 0 ∷ 0 ∷ 0x1B ∷ 0x68 ∷ 0x01 ∷ 0x03 ∷ 0xE8 ∷ 0 ∷ 0 ∷ 0x1B ∷ 0x68 ∷ 0x01 ∷ 0x03 ∷ 0xE8 ∷ 0 ∷ 0 ∷ 0x1B ∷ 0x18 ∷ []

abbrev pub three_from5000 : List ℕ
three_from5000 =
    0x0B ∷ 0 ∷ 0 ∷ 0 ∷ 0 ∷ 0 ∷ 0 ∷ 0x1B ∷ 0x68 ∷ 0x01 ∷ 0x03 ∷ 0xE8 ∷ 0 ∷ 0 ∷ 0x1B ∷ 0x68 ∷ 0x01 ∷ 0x03 ∷ 0xE8 ∷ 0 ∷ 0 ∷ 0x1B ∷ 0x58 ∷ 0x80 ∷ []

abbrev pub two_points : List ℕ
two_points = 0x0B ∷ 0 ∷ 0 ∷ 0 ∷ 0 ∷ 0 ∷ 0 ∷ 0x1B ∷ 0x68 ∷ 0x03 ∷ 0x07 ∷ 0xD0 ∷ 0 ∷ 0 ∷ 0x1B ∷ 0x18 ∷ []

-- FRC 3, FOW 3 and a sector: 8 east, 24 west.
abbrev pub road : ℕ → LineAttributes
road sector = record { frc = 3; fow = 3; sector = sector }

abbrev pub point : ℕ → ℕ → Point
point distance east = record { leaves = road 8; lowest = 3; distance = distance; next = record { lon = east; lat = 0 } }

abbrev pub three : Offset → Reference
three pos = record { lon = 0; lat = 0; points = point 1 1_000 ∷ point 1 1_000 ∷ []; arrives = road 24; pos = pos; neg = absent }

abbrev pub two : Reference
two = record { lon = 0; lat = 0; points = point 3 2_000 ∷ []; arrives = road 24; pos = absent; neg = absent }

-- Stretch 0, 1 with a positive offset, and the legs that it is cut into.
abbrev pub stretch : ℕ → Stretch
stretch pos = record { lines = 0 ∷ 1 ∷ []; pos = pos; neg = 0 }

abbrev pub cuts : List (List ℕ)
cuts = (0 ∷ []) ∷ (1 ∷ []) ∷ []

abbrev pub leg : ℕ → ℕ → ℕ → Arrival → Leg
leg from to distance arrival =
    record { from = from; to = to; leaves = road 8; lowest = 3; distance = distance; arrival = arrival }

abbrev pub three_legs : List Leg
three_legs = leg 0 1 1 any ∷ leg 1 3 1 (matching (road 24)) ∷ []

abbrev pub tie : Leg
tie = leg 0 3 3 (matching (road 24))

pub record Ridge : Type 0 where
  pub map : decode map_bytes ≡ whole ridge
  pub stretch_0 : check_stretch ridge (stretch 0) ≡ remains (stretch 0)
  pub stretch_5000 : check_stretch ridge (stretch 5_000) ≡ remains (stretch 5_000)
  pub three_parsed : parse three_points ≡ parsed (three absent)
  pub three_from_5000_parsed : parse three_from5000 ≡ parsed (three (byte 0x80))
  pub two_parsed : parse two_points ≡ parsed two
  pub three_bytes : stretch_bytes ridge cuts (stretch 0) ≡ three_points
  pub three_from_5000_bytes : stretch_bytes ridge cuts (stretch 5_000) ≡ three_from5000
  pub two_bytes : stretch_bytes ridge ((0 ∷ 1 ∷ []) ∷ []) (stretch 0) ≡ two_points
  pub three_located : locate ridge (three absent) ≡ located three_legs
  pub three_from_5000_located : locate ridge (three (byte 0x80)) ≡ located three_legs
  pub two_located : locate ridge two ≡ located (tie ∷ [])
  pub first_leg_lem : leg_of ridge false (0 ∷ []) ≡ leg 0 1 1 any
  pub last_leg_lem : leg_of ridge true (1 ∷ []) ≡ leg 1 3 1 (matching (road 24))

pub on_the_ridge : Ridge
unfolding computing
on_the_ridge =
    record {
      map = refl;
      stretch_0 = refl;
      stretch_5000 = refl;
      three_parsed = refl;
      three_from_5000_parsed = refl;
      two_parsed = refl;
      three_bytes = refl;
      three_from_5000_bytes = refl;
      two_bytes = refl;
      three_located = refl;
      three_from_5000_located = refl;
      two_located = refl;
      first_leg_lem = refl;
      last_leg_lem = refl;
    }
