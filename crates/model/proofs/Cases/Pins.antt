-- Worked cases that tell the definitions from near misses which every other theorem lets pass.
use Prim.Native.Nat.{ℕ}
use mathlib.Core.Path.{◌≡◌, refl}
use mathlib.Core.List.{List, [], ◌∷◌, map}
use native.Mathlib.Omega.{arith}
use lib.ListN.{replicate}
use Rattle.model.specs.Map.{Map, MapAnswer, whole, decode}
use Rattle.model.specs.Stretch.{StretchAnswer, check_stretch, stretch_of}
use Rattle.model.specs.Reference.{absent, byte, Reference}
use Rattle.model.specs.Reading.{any, Leg, Allowed, Only, Unread}
use Rattle.model.specs.Refusal.{row, row_at}
use Rattle.model.specs.Outcome.{ReadOutcome, read, ReadOn, Reads, WriteOutcome, written, Writes}
use Rattle.model.specs.Host.{words, host_stretch, HostReadCall, HostWriteCall}
use Rattle.model.specs.Choice.{offset_of, last_leg}
use Rattle.model.specs.Locate.{locate, no_node}
use Rattle.model.proofs.Cases.Computing.{computing}
use Rattle.model.proofs.Cases.Ways.{finding, connects}
use Rattle.model.proofs.Cases.Legs.{sole, unread}
use Rattle.model.proofs.Cases.Fields.{to_and_fro, laps}
use Rattle.model.proofs.Cases.Ridge.{map_bytes, node, line, ridge, road, three_from5000}
use Rattle.model.proofs.Cases.Tie.{none, from_5000, writes_from_5000, reads_from_5000}
use Rattle.model.proofs.Cases.Conditions.{detour, long}

abbrev leg_to : ℕ → ℕ → ℕ → ℕ → Leg
leg_to from to lowest distance = record { from = from; to = to; leaves = road 8; lowest = lowest; distance = distance; arrival = any }

-- "At most the leg's lowest class": a line of FRC 3 is read under 7.
pub better_class : Only ridge (leg_to 0 1 7 1) (0 ∷ [])
unfolding computing finding
better_class = sole ridge (leg_to 0 1 7 1) refl (0 ∷ []) (search (connects, arith)) refl refl

-- "D aside": 0, 1 gives D 3, but the detour, which gives D 2, is shorter.
abbrev aside : Leg
aside = leg_to 0 3 5 3

detour_allowed : Allowed detour aside (0 ∷ 2 ∷ 3 ∷ [])
unfolding computing finding
detour_allowed = search (connects, arith)

pub d_aside : Unread detour aside
unfolding computing finding
d_aside = unread detour aside refl (λ r. omega (arith, r.distanced), (λ r. omega (arith, r.least (0 ∷ 2 ∷ 3 ∷ []) detour_allowed refl), tt))

-- "Every FRC": of the first line and of the last.
abbrev uneven : Map
uneven =
    record {
      nodes = node 0 0 ∷ node 1_000 0 ∷ node 2_000 0 ∷ [];
      lines =
          line 0 1 10_000 8 24
          ∷ record { start = 1; end = 2; length = 10_000; frc = 5; fow = 3; out = 8; back = 24 }
          ∷ [];
      bans = [];
    }

abbrev first5 : Leg
first5 = record { from = 1; to = 2; leaves = record { frc = 5; fow = 3; sector = 8 }; lowest = 3; distance = 1; arrival = any }

pub first_class : Unread uneven first5
unfolding computing finding
first_class = unread uneven first5 refl (λ r. omega (arith, r.allowed.classes), tt)

pub last_class : Unread uneven (leg_to 0 2 3 3)
unfolding computing finding
last_class = unread uneven (leg_to 0 2 3 3) refl (λ r. omega (arith, r.allowed.classes), tt)

-- ---- by computation

-- Point 1 stands at node 1, and the leg to it has a D that no line gives; point 2 stands at no node.
abbrev lost : Reference
lost =
    record {
      lon = 0;
      lat = 0;
      points =
          record { leaves = road 8; lowest = 3; distance = 9; next = record { lon = 1_000; lat = 0 } }
          ∷ record { leaves = road 8; lowest = 3; distance = 1; next = record { lon = 1_001; lat = 0 } }
          ∷ [];
      arrives = road 24;
      pos = absent;
      neg = absent;
    }

-- The end of a map's bytes: a line from node 0 to node 1; and a map whose two nodes have longitudes stored as 0 and 1.
abbrev one_line : List ℕ
one_line = 1 ∷ 0 ∷ 1 ∷ 10 ∷ 3 ∷ 3 ∷ 0 ∷ 0 ∷ 0 ∷ 0 ∷ 0 ∷ []

abbrev clashing : List ℕ
clashing = 2 ∷ 0 ∷ 0 ∷ 1 ∷ 0 ∷ one_line

pub record Pins : Type 0 where
  -- 65 lines are refusal 7 although an offset drops one, although two do not meet, although the offsets reach the total.
  pub sixty_five : map (check_stretch to_and_fro)
      (stretch_of (1 ∷ laps 32) 20 0 ∷ stretch_of (1 ∷ laps 32) 0 10 ∷ stretch_of (0 ∷ laps 32) 0 0 ∷ stretch_of (1 ∷ laps 32) 9_999 9_999 ∷ []) ≡
      replicate 4 (StretchAnswer.refused (row 7))
  -- A map of three nodes and two lines has no line 2, wherever it stands in the stretch.
  pub no_line_2 : map (check_stretch long) (stretch_of (2 ∷ []) 0 0 ∷ stretch_of (2 ∷ 0 ∷ []) 0 0 ∷ stretch_of (0 ∷ 2 ∷ 1 ∷ []) 0 0 ∷ []) ≡
      replicate 3 (StretchAnswer.refused (row 7))
  -- FRC 0, FOW 0 and steps of -250 are in their ranges.
  pub lowest_values : decode (2 ∷ 0 ∷ 0 ∷ 100 ∷ 0 ∷ 1 ∷ 0 ∷ 1 ∷ 10 ∷ 0 ∷ 0 ∷ 0 ∷ 0 ∷ 0 ∷ 0 ∷ 0 ∷ []) ≡
      whole
      (record {
        nodes = record { lon = 0; lat = 0 } ∷ record { lon = 100; lat = 0 } ∷ [];
        lines = record { start = 0; end = 1; length = 10; frc = 0; fow = 0; out = 20; back = 20 } ∷ [];
        bans = [];
      })
  -- Two nodes with the same codes, neither of them the first: longitudes stored as 9, 0 and 1; and two with another between: 0, 9 and 1.
  pub later_codes : map decode ((3 ∷ 9 ∷ 0 ∷ 0 ∷ 0 ∷ 1 ∷ 0 ∷ one_line) ∷ (3 ∷ 0 ∷ 0 ∷ 9 ∷ 0 ∷ 1 ∷ 0 ∷ one_line) ∷ []) ≡
      replicate 2 (MapAnswer.refused (row 6))
  -- The first point has its longitude's code at node 0, and its latitude's at none.
  pub both_codes : locate ridge (record { lon = 0; lat = 99; points = []; arrives = road 24; pos = absent; neg = absent }) ≡ no_node 0
  -- An offset that is not 0 is flagged, though its byte is 0; the last of three legs is the third.
  pub flagged_0 : offset_of 1_000 1 ≡ byte 0
  pub third_leg : last_leg ((0 ∷ []) ∷ (1 ∷ []) ∷ (2 ∷ []) ∷ []) ≡ 2 ∷ []
  -- Bytes beyond the last whole four say no line.
  pub whole_fours : map words ((7 ∷ 0 ∷ 0 ∷ 0 ∷ 1 ∷ []) ∷ (7 ∷ 0 ∷ 0 ∷ 0 ∷ 1 ∷ 0 ∷ []) ∷ (7 ∷ 0 ∷ 0 ∷ 0 ∷ 1 ∷ 0 ∷ 0 ∷ []) ∷ []) ≡ replicate 3 (7 ∷ [])
  -- The number of each part is that of the call.
  pub map_rows : Reads clashing [] 14_336 0 (ReadOutcome.refused (row 6)) × Writes clashing (stretch_of [] 0 0) 0 14_336 0 (WriteOutcome.refused (row 6))
  pub stretch_rows : Writes map_bytes (stretch_of (0 ∷ 2 ∷ 1 ∷ []) 0 0) 0 14_336 0 (WriteOutcome.refused (row 8)) ×
      Writes map_bytes (stretch_of (3 ∷ 0 ∷ 1 ∷ []) 0 0) 0 14_336 0 (WriteOutcome.refused (row 8)) ×
      Writes map_bytes (stretch_of (0 ∷ []) 10_000 0) 0 14_336 0 (WriteOutcome.refused (row 9))
  pub form_rows : Reads map_bytes (0x0A ∷ replicate 15 0) 14_336 0 (ReadOutcome.refused (row 13))
  -- Six bytes are no multiple of four.
  pub six_bytes : map (λ bs. check_stretch ridge (host_stretch bs 0 0)) (replicate 6 0 ∷ replicate 7 0 ∷ []) ≡ replicate 2 (StretchAnswer.refused (row 7))
  -- 16 before 17: every point's node is asked before any leg.
  pub points_first : (room : ℕ) → ReadOn ridge lost room (ReadOutcome.refused (row_at 16 2))

pub pins : Pins
unfolding computing
pins =
    record {
      sixty_five = refl;
      no_line_2 = refl;
      lowest_values = refl;
      later_codes = refl;
      both_codes = refl;
      flagged_0 = refl;
      third_leg = refl;
      whole_fours = refl;
      map_rows = (refl, refl);
      stretch_rows = (refl, refl, refl);
      form_rows = refl;
      six_bytes = refl;
      points_first = λ room. ReadOn.no_point refl;
    }

-- A host writes the ridge's stretch 0, 1 from 5,000 on with four tests into a buffer of 24 bytes, and reads it into one of 8.
pub host_writes : HostWriteCall map_bytes (0 ∷ 0 ∷ 0 ∷ 0 ∷ 1 ∷ 0 ∷ 0 ∷ 0 ∷ []) 5_000 0 4 (replicate 24 7)
    (record { refusal = 0; bytes = 24; tests = 3; excess = 0 }) three_from5000
unfolding computing
host_writes =
    record { answered = record { outcome = written three_from5000 3 0; asked = writes_from_5000; answers = refl; buffer_after = refl } }

pub host_reads : HostReadCall map_bytes three_from5000 (replicate 8 7)
    (record { refusal = 0; place = 0; lines = 2; pos_least = 4_981; pos_greatest = 5_019; neg_least = 0; neg_greatest = 0 }) (0 ∷ 0 ∷ 0 ∷ 0 ∷ 1 ∷ 0 ∷ 0 ∷ 0 ∷ [])
unfolding computing
host_reads =
    record { answered = record { outcome = read (0 ∷ 1 ∷ []) from_5000 none; asked = reads_from_5000; answers = refl; buffer_after = refl } }
