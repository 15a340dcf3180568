-- Worked cases of paper 01, "A stretch" (refusals 7 to 9), and of the values of "The bytes" beyond those at the edges: one table, one theorem.
use Prim.Native.Nat.{ℕ, zero, suc}
use mathlib.Core.Path.{◌≡◌, refl}
use mathlib.Core.Bool.{true, false}
use mathlib.Core.List.{List, [], ◌∷◌, map}
use native.Mathlib.Omega.{arith}
use lib.ListN.{replicate}
use Rattle.model.specs.Refusal.{row}
use Rattle.model.specs.Field.{code, nearest_step, offset_byte}
use Rattle.model.specs.Map.{Node, Map, lon_code, lat_code}
use Rattle.model.specs.Difference.{Near, DifferencesFit, difference, moved, brought, lon_difference, lon_sum, signed, differences, stands_at}
use Rattle.model.specs.Lines.{total, lowest, leaving, arriving}
use Rattle.model.specs.Stretch.{Stretch, StretchAnswer, remains, check_stretch}
use Rattle.model.specs.Reading.{any, matching}
use Rattle.model.specs.Choice.{leg_of}
use Rattle.model.proofs.Cases.Computing.{computing}
use Rattle.model.proofs.Cases.Edges.{lon}
use Rattle.model.proofs.Cases.Ridge.{node}

-- Two lines to and fro that differ in everything.
abbrev pub to_and_fro : Map
to_and_fro =
    record {
      nodes = node 0 0 ∷ node 10 20 ∷ [];
      lines =
          record { start = 0; end = 1; length = 10; frc = 3; fow = 5; out = 8; back = 16 }
          ∷ record { start = 1; end = 0; length = 20; frc = 5; fow = 2; out = 24; back = 4 }
          ∷ [];
      bans = [];
    }

abbrev stretch : List ℕ → ℕ → ℕ → Stretch
stretch lines pos neg = record { lines = lines; pos = pos; neg = neg }

-- A node at a longitude as the map stores it, on the equator.
abbrev pub equator : ℕ → Node
equator lon = record { lon = lon; lat = 9_000_000 }

-- To and fro so many times.
abbrev pub laps : ℕ → List ℕ
laps zero = []
laps (suc n) = 0 ∷ 1 ∷ laps n

-- All of these stretches are refused so.
abbrev Refuses : ℕ → List Stretch → Type 0
Refuses n ss = map (check_stretch to_and_fro) ss ≡ map (λ s. StretchAnswer.refused (row n)) ss

pub record FieldCases : Type 0 where
  -- "Plus ½ if c is positive, minus ½ if negative, cut towards zero": -2, -3, -100,000 and -18,000,000 give -1, -1, -46,603 and
  -- -8,388,608; latitudes 9,000,000 and -9,000,000 give 4,194,304 and -4,194,304.
  pub codes : lon 17_999_998 ∷ lon 17_999_997 ∷ lon 17_900_000 ∷ lon 0 ∷ [] ≡ 0xFF_FF_FF ∷ 0xFF_FF_FF ∷ 0xFF_49_F5 ∷ 0x80_00_00 ∷ []
  pub latitudes : code 9_000_000 18_000_000 ∷ code 9_000_000 0 ∷ [] ≡ 0x40_00_00 ∷ 0xC0_00_00 ∷ []
  pub node_codes : lon_code (node 100_000 2) ∷ lat_code (node 2 100_000) ∷ [] ≡ 46_603 ∷ 46_603 ∷ []
  -- "To the nearest 256th", "255 where that gives 256" (W6): 999 of 1000 is nearest to 256 of them.
  pub offset_bytes : map (offset_byte 1_000) (1 ∷ 2 ∷ 500 ∷ 997 ∷ 998 ∷ 999 ∷ []) ≡ 0 ∷ 1 ∷ 128 ∷ 255 ∷ 255 ∷ 255 ∷ []
  pub nearest_steps : map (nearest_step 1_000) (1 ∷ 2 ∷ 500 ∷ 997 ∷ 998 ∷ 999 ∷ []) ≡ 0 ∷ 1 ∷ 128 ∷ 255 ∷ 255 ∷ 256 ∷ []
  -- "An exact half upwards": on a leg of 512 every odd offset is one, the last of them between 255 and 256. On a leg of 513 offset 1 is just below a half, on 511
  -- just above.
  pub halves : map (nearest_step 512) (1 ∷ 2 ∷ 3 ∷ 509 ∷ 511 ∷ []) ≡ 1 ∷ 1 ∷ 2 ∷ 255 ∷ 256 ∷ []
  pub near_halves : offset_byte 513 1 ∷ offset_byte 511 1 ∷ [] ≡ 0 ∷ 1 ∷ []
  -- Differences of 16 bits, signed: 1000 and -1000, and the ends -32,768 and 32,767.
  pub sixteen_bits : difference 0 1_000 ∷ difference 1_000 0 ∷ difference 32_768 0 ∷ difference 0 32_767 ∷ [] ≡ 0x03E8 ∷ 0xFC18 ∷ 0x8000 ∷ 0x7FFF ∷ []
  pub reached : moved 0 0x03E8 1_000 ∷ moved 1_000 0xFC18 0 ∷ moved 32_768 0x8000 0 ∷ moved 0 0x7FFF 32_767 ∷ [] ≡ replicate 4 true
  pub not_reached : moved 0 0x8000 32_768 ∷ moved 0 0xFFFF 0 ∷ moved 0 0xFFFF 65_535 ∷ [] ≡ replicate 3 false
  pub near : Near 32_768 0 × Near 0 32_767
  pub not_near : (Near 32_769 0 → ⊥) × (Near 0 32_768 → ⊥)
  pub not_fitting : (DifferencesFit (node 0 0) (node 32_768 0) → ⊥) × (DifferencesFit (node 0 0) (node 0 32_768) → ⊥)
  pub both_ways : differences (node 10 20) (node 15 13) ≡ record { lon = 5; lat = 0xFFF9 }
  pub stands : map (stands_at (node 10 20) (record { lon = 5; lat = 0xFFF9 })) (node 15 13 ∷ node 15 12 ∷ node 14 13 ∷ []) ≡ true ∷ false ∷ false ∷ []
  -- Longitudes as the map stores them, from 17,999,998 (W2): to -18,000,000 "the difference is 2"; to 17,999,997 and itself it is -1 and 0; half a
  -- circle on it is 17,999,999, -18,000,000 and -17,999,999.
  pub round : map (lon_difference 35_999_998) (0 ∷ 35_999_997 ∷ 35_999_998 ∷ 17_999_997 ∷ 17_999_998 ∷ 17_999_999 ∷ []) ≡
      18_000_002 ∷ 17_999_999 ∷ 18_000_000 ∷ 35_999_999 ∷ 0 ∷ 1 ∷ []
  -- From -18,000,000 to 17,999,998 it is -2; from 0 to -18,000,000, 17,999,998 and 1 it is as plain.
  pub round_back : lon_difference 0 35_999_998 ∷ map (lon_difference 18_000_000) (0 ∷ 35_999_998 ∷ 18_000_001 ∷ []) ≡ 17_999_998 ∷ 0 ∷ 35_999_998 ∷ 18_000_001 ∷ []
  -- The ends of what is brought, and one past each: -18,000,000 and 17,999,999; 17,999,999 and -18,000,000.
  pub brought_ends : map brought (36_000_000 ∷ 71_999_999 ∷ 35_999_999 ∷ 72_000_000 ∷ []) ≡ 0 ∷ 35_999_999 ∷ 35_999_999 ∷ 0 ∷ []
  -- What 16 bits stand for: 0, 32,767, -32,768 and -1.
  pub signs : map signed (0 ∷ 0x7FFF ∷ 0x8000 ∷ 0xFFFF ∷ []) ≡ 18_000_000 ∷ 18_032_767 ∷ 17_967_232 ∷ 17_999_999 ∷ []
  -- Sums: 17,999,998 and 2, -18,000,000 and -2, 17,999,998 and 32,767, -17,967,235 and -32,768, 17,999,998 and 1, 5 and -2.
  pub sums : lon_sum 35_999_998 (signed 2) ∷ lon_sum 0 (signed 0xFFFE) ∷ lon_sum 35_999_998 (signed 0x7FFF) ∷ lon_sum 32_765 (signed 0x8000)
      ∷ lon_sum 35_999_998 (signed 1) ∷ lon_sum 18_000_005 (signed 0xFFFE) ∷ [] ≡ 0 ∷ 35_999_998 ∷ 32_765 ∷ 35_999_997 ∷ 35_999_999 ∷ 18_000_003 ∷ []
  -- In 16 bits; and just inside and just outside them across the meridian, both ways.
  pub round_bits : (differences (equator 35_999_998) (equator 0)).lon ∷ (differences (equator 0) (equator 35_999_998)).lon ∷ [] ≡ 2 ∷ 0xFFFE ∷ []
  pub fits_round : DifferencesFit (equator 35_999_998) (equator 0) × DifferencesFit (equator 0) (equator 35_999_998)
      × DifferencesFit (equator 35_999_998) (equator 32_765) × DifferencesFit (equator 32_765) (equator 35_999_997)
  pub not_round : (DifferencesFit (equator 35_999_998) (equator 32_766) → ⊥) × (DifferencesFit (equator 32_765) (equator 35_999_996) → ⊥)
      × (DifferencesFit (equator 0) (equator 18_000_000) → ⊥) × (DifferencesFit (equator 18_000_000) (equator 0) → ⊥)
  -- Latitudes do not go round: there is no way over a pole.
  pub no_pole : (DifferencesFit (record { lon = 0; lat = 18_000_000 }) (record { lon = 0; lat = 0 }) → ⊥)
      × (DifferencesFit (record { lon = 0; lat = 0 }) (record { lon = 0; lat = 18_000_000 }) → ⊥)
  -- "Bearing out" and "bearing back"; "the greatest FRC number".
  pub lines : leaving to_and_fro 0 ∷ arriving to_and_fro 0 ∷ leaving to_and_fro 1 ∷ arriving to_and_fro 1 ∷ [] ≡
      record { frc = 3; fow = 5; sector = 8 } ∷ record { frc = 3; fow = 5; sector = 16 } ∷ record { frc = 5; fow = 2; sector = 24 }
      ∷ record { frc = 5; fow = 2; sector = 4 } ∷ []
  pub classes : map (lowest to_and_fro) ((0 ∷ []) ∷ (0 ∷ 1 ∷ []) ∷ (1 ∷ 0 ∷ []) ∷ []) ≡ 3 ∷ 5 ∷ 5 ∷ []
  pub totals : map (total to_and_fro) ((0 ∷ []) ∷ (0 ∷ 1 ∷ 0 ∷ []) ∷ []) ≡ 10 ∷ 40 ∷ []
  -- Refusal 7 before 8 before 9: no lines, 65 lines, no line 2.
  pub no_lines : Refuses 7 (stretch [] 0 0 ∷ stretch (1 ∷ laps 32) 0 0 ∷ stretch (2 ∷ []) 0 0 ∷ stretch (0 ∷ 0 ∷ 2 ∷ []) 900 900 ∷ [])
  pub gaps : Refuses 8 (stretch (1 ∷ 1 ∷ []) 0 0 ∷ stretch (0 ∷ 1 ∷ 1 ∷ []) 900 900 ∷ [])
  pub offsets : Refuses 9 (stretch (0 ∷ 1 ∷ []) 10 20 ∷ stretch (0 ∷ []) 10 0 ∷ stretch (1 ∷ []) 0 20 ∷ [])
  -- What remains: 64 lines; an offset just below a line's length; one equal to it, which drops it, at either end; one that covers more.
  pub remaining_lines : map (check_stretch to_and_fro)
      (stretch (laps 32) 0 0 ∷ stretch (0 ∷ 1 ∷ []) 9 19 ∷ stretch (0 ∷ 1 ∷ []) 10 19 ∷ stretch (0 ∷ 1 ∷ []) 9 20
      ∷ stretch (0 ∷ 1 ∷ 0 ∷ 1 ∷ 0 ∷ []) 35 14 ∷ []) ≡
      remains (stretch (laps 32) 0 0) ∷ remains (stretch (0 ∷ 1 ∷ []) 9 19) ∷ remains (stretch (1 ∷ []) 0 19) ∷ remains (stretch (0 ∷ []) 9 0)
      ∷ remains (stretch (0 ∷ 1 ∷ []) 5 4) ∷ []
  -- The leg that lines make, as a middle one and as the last one.
  pub legs : leg_of to_and_fro false (0 ∷ 1 ∷ []) ∷ leg_of to_and_fro true (0 ∷ 1 ∷ []) ∷ [] ≡
      record { from = 0; to = 0; leaves = record { frc = 3; fow = 5; sector = 8 }; lowest = 5; distance = 0; arrival = any }
      ∷ record {
        from = 0;
        to = 0;
        leaves = record { frc = 3; fow = 5; sector = 8 };
        lowest = 5;
        distance = 0;
        arrival = matching (record { frc = 5; fow = 2; sector = 4 });
      }
      ∷ []

pub field_cases : FieldCases
unfolding computing
field_cases =
    record {
      codes = refl;
      latitudes = refl;
      node_codes = refl;
      offset_bytes = refl;
      nearest_steps = refl;
      halves = refl;
      near_halves = refl;
      sixteen_bits = refl;
      reached = refl;
      not_reached = refl;
      near = omega arith;
      not_near = (λ n. omega (arith, n.back), λ n. omega (arith, n.on));
      not_fitting = (λ f. omega (arith, f.lon.on), λ f. omega (arith, f.lat.on));
      both_ways = refl;
      stands = refl;
      round = refl;
      round_back = refl;
      brought_ends = refl;
      signs = refl;
      sums = refl;
      round_bits = refl;
      fits_round = (omega arith, omega arith, omega arith, omega arith);
      not_round = (λ f. omega (arith, f.lon.on), λ f. omega (arith, f.lon.back), λ f. omega (arith, f.lon.back), λ f. omega (arith, f.lon.back));
      no_pole = (λ f. omega (arith, f.lat.back), λ f. omega (arith, f.lat.on));
      lines = refl;
      classes = refl;
      totals = refl;
      no_lines = refl;
      gaps = refl;
      offsets = refl;
      remaining_lines = refl;
      legs = refl;
    }
