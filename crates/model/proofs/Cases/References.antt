-- Worked cases of paper 01, "The bytes", and of refusals 12 to 16: one table, one theorem.
use Prim.Native.Nat.{ℕ}
use mathlib.Core.Path.{◌≡◌, refl}
use mathlib.Core.List.{List, [], ◌∷◌, map}
use lib.ListN.{replicate}
use Rattle.model.specs.Reference.{Offset, absent, byte, Reference, bytes_of, ParseAnswer, parsed, parse}
use Rattle.model.specs.Choice.{reference_of}
use Rattle.model.specs.Refusal.{row, row_at}
use Rattle.model.specs.Locate.{no_node, locate}
use Rattle.model.specs.Outcome.{ReadOutcome, ReadOn}
use Rattle.model.proofs.Cases.Computing.{computing}
use Rattle.model.proofs.Cases.Ridge.{ridge, road}
use Rattle.model.proofs.Cases.Fields.{to_and_fro}

-- Two points: status byte, P, last P, and what stands from R on.
abbrev bytes : ℕ → ℕ → ℕ → List ℕ → List ℕ
bytes status p last rest =
    status ∷ 0x01 ∷ 0x02 ∷ 0x03 ∷ 0xF4 ∷ 0xF5 ∷ 0xF6 ∷ p ∷ 0xA9 ∷ 0x07 ∷ 0x03 ∷ 0xE8 ∷ 0xFC ∷ 0x18 ∷ last ∷ rest

-- The same with FRC 3, FOW 5, lowest class 5, sector 9, D 7, differences of 1000 and -1000, last FRC 5 and FOW 2, and these.
abbrev reference : ℕ → Offset → Offset → Reference
reference sector pos neg =
    record {
      lon = 0x01_02_03;
      lat = 0xF4_F5_F6;
      points = record { leaves = record { frc = 3; fow = 5; sector = 9 }; lowest = 5; distance = 7; next = record { lon = 0x03E8; lat = 0xFC18 } } ∷ [];
      arrives = record { frc = 5; fow = 2; sector = sector };
      pos = pos;
      neg = neg;
    }

-- Three points, with a P in the middle.
abbrev middle : ℕ → List ℕ
middle p = bytes 0x0B 0x1D p (0 ∷ 0 ∷ 0 ∷ 0 ∷ 0 ∷ 0 ∷ 0x2A ∷ 0x1F ∷ [])

-- On the ridge, a first point with this longitude code, then these differences of longitude.
abbrev pub eastward : ℕ → ℕ → ℕ → Reference
eastward lon first second =
    record {
      lon = lon;
      lat = 0;
      points =
          record { leaves = road 8; lowest = 3; distance = 1; next = record { lon = first; lat = 0 } }
          ∷ record { leaves = road 8; lowest = 3; distance = 1; next = record { lon = second; lat = 0 } }
          ∷ [];
      arrives = road 24;
      pos = absent;
      neg = absent;
    }

-- All of these bytes are refused so.
abbrev Refuses : ℕ → List (List ℕ) → Type 0
Refuses n bss = map parse bss ≡ map (λ bs. ParseAnswer.refused (row n)) bss

pub record ReferenceCases : Type 0 where
  -- Taken apart: without offsets, a positive one, a negative one, both. P is 3 × 8 + 5, Q 5 × 32 + 9, the last P 5 × 8 + 2.
  pub taken_apart : map parse
      (bytes 0x0B 0x1D 0x2A (0x1F ∷ []) ∷ bytes 0x0B 0x1D 0x2A (0x40 ∷ 0x11 ∷ []) ∷ bytes 0x0B 0x1D 0x2A (0x21 ∷ 0x22 ∷ [])
      ∷ bytes 0x0B 0x1D 0x2A (0x7F ∷ 0x11 ∷ 0x22 ∷ []) ∷ []) ≡
      parsed (reference 31 absent absent) ∷ parsed (reference 0 (byte 0x11) absent) ∷ parsed (reference 1 absent (byte 0x22))
      ∷ parsed (reference 31 (byte 0x11) (byte 0x22)) ∷ []
  -- And put together.
  pub put_together : map bytes_of
      (reference 31 absent absent ∷ reference 0 (byte 0x11) absent ∷ reference 1 absent (byte 0x22) ∷ reference 31 (byte 0x11) (byte 0x22) ∷ []) ≡
      bytes 0x0B 0x1D 0x2A (0x1F ∷ []) ∷ bytes 0x0B 0x1D 0x2A (0x40 ∷ 0x11 ∷ []) ∷ bytes 0x0B 0x1D 0x2A (0x21 ∷ 0x22 ∷ [])
      ∷ bytes 0x0B 0x1D 0x2A (0x7F ∷ 0x11 ∷ 0x22 ∷ []) ∷ []
  -- 0, 15, 19, 22 and 464 bytes; 12 before 13. 459 bytes go on to 15, as two offsets are not flagged.
  pub lengths : Refuses 12
      ([] ∷ bytes 0x0B 0x1D 0x2A [] ∷ bytes 0x0B 0x1D 0x2A (0x7F ∷ 1 ∷ 1 ∷ 1 ∷ []) ∷ bytes 0x2B 0x1D 0x2A (0x7F ∷ 1 ∷ 1 ∷ 1 ∷ 1 ∷ 1 ∷ 1 ∷ [])
      ∷ (0x0B ∷ replicate 463 0) ∷ [])
  pub longest : Refuses 15 ((0x0B ∷ replicate 458 0) ∷ [])
  -- Another version, another type; 13 before 14.
  pub statuses : Refuses 13
      (bytes 0x0A 0x1D 0x2A (0x1F ∷ []) ∷ bytes 0x0C 0x1D 0x2A (0x1F ∷ []) ∷ bytes 0x2B 0x1D 0x2A (0x1F ∷ []) ∷ bytes 0x8B 0xFF 0x2A (0x1F ∷ []) ∷ [])
  -- Bits 6 and 7 of each P, bit 7 of R; 14 before 15.
  pub zero_bits : Refuses 14
      (bytes 0x0B 0x5D 0x2A (0x1F ∷ []) ∷ bytes 0x0B 0x9D 0x2A (0x1F ∷ []) ∷ bytes 0x0B 0x1D 0x6A (0x1F ∷ []) ∷ bytes 0x0B 0x1D 0xAA (0x1F ∷ [])
      ∷ middle 0x5B ∷ middle 0x9B ∷ bytes 0x0B 0x1D 0x2A (0x9F ∷ []) ∷ bytes 0x0B 0x1D 0x2A (0x9F ∷ 1 ∷ []) ∷ [])
  pub flag_counts : Refuses 15
      (bytes 0x0B 0x1D 0x2A (0x1F ∷ 1 ∷ []) ∷ bytes 0x0B 0x1D 0x2A (0x5F ∷ []) ∷ bytes 0x0B 0x1D 0x2A (0x3F ∷ []) ∷ bytes 0x0B 0x1D 0x2A (0x7F ∷ 1 ∷ [])
      ∷ bytes 0x0B 0x1D 0x2A (0x3F ∷ 1 ∷ 1 ∷ []) ∷ [])
  -- Refusal 16: no node has code 1; none is 1,001 east of node 0; none is 1,001 east of node 1, which is point 1.
  pub points : map (locate ridge) (eastward 1 1_001 1_001 ∷ eastward 0 1_001 1_001 ∷ eastward 0 1_000 1_001 ∷ []) ≡ no_node 0 ∷ no_node 1 ∷ no_node 2 ∷ []
  pub no_node_at_0 : (room : ℕ) → ReadOn ridge (eastward 1 1_001 1_001) room (ReadOutcome.refused (row_at 16 0))
  pub no_node_at_1 : (room : ℕ) → ReadOn ridge (eastward 0 1_001 1_001) room (ReadOutcome.refused (row_at 16 1))
  -- Offset 5 is half of the first leg and a quarter of the last. Both points' codes and differences: 10, 20 and back.
  pub offsets : reference_of to_and_fro ((0 ∷ []) ∷ (1 ∷ []) ∷ []) 5 5 ≡
      record {
        lon = 0;
        lat = 0;
        points =
            record { leaves = record { frc = 3; fow = 5; sector = 8 }; lowest = 3; distance = 0; next = record { lon = 10; lat = 20 } }
            ∷ record { leaves = record { frc = 5; fow = 2; sector = 24 }; lowest = 5; distance = 0; next = record { lon = 0xFFF6; lat = 0xFFEC } }
            ∷ [];
        arrives = record { frc = 5; fow = 2; sector = 4 };
        pos = byte 0x80;
        neg = byte 0x40;
      }

pub reference_cases : ReferenceCases
unfolding computing
reference_cases =
    record {
      taken_apart = refl;
      put_together = refl;
      lengths = refl;
      longest = refl;
      statuses = refl;
      zero_bits = refl;
      flag_counts = refl;
      points = refl;
      no_node_at_0 = λ room. ReadOn.no_point refl;
      no_node_at_1 = λ room. ReadOn.no_point refl;
      offsets = refl;
    }
