-- Worked cases of paper 01, "The depot map", of W1's banned turns, of W3's steps, and of refusals 2 to 6, 23 and 24: one table, one theorem.
use Prim.Native.Nat.{ℕ}
use mathlib.Core.Path.{◌≡◌, refl}
use mathlib.Core.List.{List, [], ◌∷◌, map}
use lib.ListN.{replicate}
use Rattle.model.specs.Refusal.{row}
use Rattle.model.specs.Number.{got, faulty, number, number_bytes}
use Rattle.model.specs.Map.{MapAnswer, whole, decode}
use Rattle.model.proofs.Cases.Computing.{computing}

-- All of these bytes are refused so.
abbrev Refuses : ℕ → List (List ℕ) → Type 0
Refuses n bss = map decode bss ≡ map (λ bs. MapAnswer.refused (row n)) bss

-- Nodes stored as 0, 0 and 100, 0, and what follows them.
abbrev pub two_nodes : List ℕ → List ℕ
two_nodes rest = 2 ∷ 0 ∷ 0 ∷ 100 ∷ 0 ∷ rest

-- One line, of which these numbers are given.
abbrev pub one_line : List ℕ → List ℕ
one_line numbers = two_nodes (1 ∷ numbers)

-- Longitudes stored as 0 and 1 have the same code.
abbrev close : List ℕ → List ℕ
close rest = 2 ∷ 0 ∷ 0 ∷ 1 ∷ 0 ∷ rest

-- One line, whose steps are all -250.
abbrev pub some_line : List ℕ → List ℕ
some_line rest = 1 ∷ 0 ∷ 1 ∷ 10 ∷ 3 ∷ 3 ∷ 0 ∷ 0 ∷ 0 ∷ 0 ∷ rest

-- Two lines, to and fro.
abbrev two_lines : List ℕ → List ℕ
two_lines rest = 2 ∷ 0 ∷ 1 ∷ 10 ∷ 3 ∷ 3 ∷ 0 ∷ 0 ∷ 0 ∷ 0 ∷ 1 ∷ 0 ∷ 20 ∷ 3 ∷ 3 ∷ 0 ∷ 0 ∷ 0 ∷ 0 ∷ rest

-- One line of which the steps are given.
abbrev pub drawn_line : List ℕ → List ℕ
drawn_line steps = one_line (0 ∷ 1 ∷ 1 ∷ 7 ∷ 7 ∷ steps)

pub record MapCases : Type 0 where
  -- "In groups of seven bits, lowest group first", "in its shortest form and at most 4,294,967,295".
  pub numbers : map number
      ((0 ∷ []) ∷ (0x7F ∷ []) ∷ (0x80 ∷ 0x01 ∷ []) ∷ (0xAC ∷ 0x02 ∷ 5 ∷ []) ∷ (0xFF ∷ 0xFF ∷ 0xFF ∷ 0xFF ∷ 0x0F ∷ []) ∷ []) ≡
      got 0 [] ∷ got 127 [] ∷ got 128 [] ∷ got 300 (5 ∷ []) ∷ got 4_294_967_295 [] ∷ []
  pub no_numbers : map number
      ([] ∷ (0x80 ∷ []) ∷ (0xAC ∷ 0x80 ∷ 0 ∷ []) ∷ (0x80 ∷ 0x80 ∷ 0x80 ∷ 0x80 ∷ 0x10 ∷ [])
      ∷ (0x80 ∷ 0x80 ∷ 0x80 ∷ 0x80 ∷ 0x80 ∷ 0x01 ∷ []) ∷ []) ≡
      replicate 5 faulty
  pub written_numbers : map number_bytes (0 ∷ 127 ∷ 128 ∷ 300 ∷ 4_294_967_295 ∷ []) ≡
      (0 ∷ []) ∷ (0x7F ∷ []) ∷ (0x80 ∷ 0x01 ∷ []) ∷ (0xAC ∷ 0x02 ∷ []) ∷ (0xFF ∷ 0xFF ∷ 0xFF ∷ 0xFF ∷ 0x0F ∷ []) ∷ []
  -- A number in its range goes on to the next one, which is missing: refusal 2. One outside it is refused at once.
  -- Counts of 2 and 512 nodes; 0, 1 and 513.
  pub node_counts : Refuses 2 ([] ∷ (2 ∷ []) ∷ (0x80 ∷ 0x04 ∷ []) ∷ [])
  pub bad_node_counts : Refuses 3 ((0 ∷ []) ∷ (1 ∷ []) ∷ (0x81 ∷ 0x04 ∷ []) ∷ [])
  -- Longitudes stored as 0 and 35,999,998, latitude as 18,000,000; longitude 35,999,999, also before a number not shortest; latitude 18,000,001.
  pub coordinates : Refuses 2 ((2 ∷ 0 ∷ []) ∷ (2 ∷ 0xFE ∷ 0xA1 ∷ 0x95 ∷ 0x11 ∷ []) ∷ (2 ∷ 0 ∷ 0x80 ∷ 0xD1 ∷ 0xCA ∷ 0x08 ∷ []) ∷ [])
  pub bad_coordinates : Refuses 4
      ((2 ∷ 0xFF ∷ 0xA1 ∷ 0x95 ∷ 0x11 ∷ []) ∷ (2 ∷ 0xFF ∷ 0xA1 ∷ 0x95 ∷ 0x11 ∷ 0x80 ∷ 0 ∷ []) ∷ (2 ∷ 0 ∷ 0x81 ∷ 0xD1 ∷ 0xCA ∷ 0x08 ∷ []) ∷ [])
  -- Counts of 1 and 1,024 lines; 0 and 1,025.
  pub line_counts : Refuses 2 (two_nodes [] ∷ two_nodes (1 ∷ []) ∷ two_nodes (0x80 ∷ 0x08 ∷ []) ∷ [])
  pub bad_line_counts : Refuses 3 (two_nodes (0 ∷ []) ∷ two_nodes (0x81 ∷ 0x08 ∷ []) ∷ [])
  -- Start node, end node (also not shortest), length 1 and 1,500,000, FRC 7, FOW 7.
  pub line_fields : Refuses 2
      (one_line (1 ∷ []) ∷ one_line (0 ∷ 1 ∷ []) ∷ one_line (0 ∷ 0x80 ∷ 0 ∷ []) ∷ one_line (0 ∷ 1 ∷ 1 ∷ [])
      ∷ one_line (0 ∷ 1 ∷ 0xE0 ∷ 0xC6 ∷ 0x5B ∷ []) ∷ one_line (0 ∷ 1 ∷ 1 ∷ 7 ∷ []) ∷ one_line (0 ∷ 1 ∷ 1 ∷ 7 ∷ 7 ∷ []) ∷ [])
  -- Start node 2, end node 2, equal ends (also before a number not shortest), length 0 and 1,500,001, FRC 8, FOW 8, also before a step of 251.
  pub bad_line_fields : Refuses 5
      (one_line (2 ∷ []) ∷ one_line (0 ∷ 2 ∷ []) ∷ one_line (1 ∷ 1 ∷ []) ∷ one_line (0 ∷ 0 ∷ 0x80 ∷ 0 ∷ []) ∷ one_line (0 ∷ 1 ∷ 0 ∷ [])
      ∷ one_line (0 ∷ 1 ∷ 0xE1 ∷ 0xC6 ∷ 0x5B ∷ []) ∷ one_line (0 ∷ 1 ∷ 1 ∷ 8 ∷ []) ∷ one_line (0 ∷ 1 ∷ 1 ∷ 7 ∷ 8 ∷ [])
      ∷ one_line (0 ∷ 1 ∷ 1 ∷ 7 ∷ 8 ∷ 0xF5 ∷ 0x03 ∷ []) ∷ [])
  -- Steps (W3). East -250, 250 and 0; with them north -250, 250 and 0, but not both 0; the same of the steps back. Both 0 where the second number is
  -- not shortest.
  pub steps : Refuses 2
      (drawn_line (0 ∷ []) ∷ drawn_line (0xF4 ∷ 0x03 ∷ []) ∷ drawn_line (0xFA ∷ 0x01 ∷ []) ∷ drawn_line (0 ∷ 0xF4 ∷ 0x03 ∷ [])
      ∷ drawn_line (0xFA ∷ 0x01 ∷ 0 ∷ []) ∷ drawn_line (0xF4 ∷ 0x03 ∷ 0xFA ∷ 0x01 ∷ []) ∷ drawn_line (0 ∷ 0 ∷ 0xFA ∷ 0x01 ∷ [])
      ∷ drawn_line (0 ∷ 0 ∷ 0xFA ∷ 0x01 ∷ 0xF4 ∷ 0x03 ∷ []) ∷ drawn_line (0xFA ∷ 0x01 ∷ 0xFA ∷ 0x81 ∷ 0 ∷ []) ∷ [])
  -- East 251, also before a number not shortest; north 251; "both zero"; the same of the steps back. East 4,294,967,045.
  pub bad_steps : Refuses 24
      (drawn_line (0xF5 ∷ 0x03 ∷ []) ∷ drawn_line (0xF5 ∷ 0x03 ∷ 0x80 ∷ 0 ∷ []) ∷ drawn_line (0 ∷ 0xF5 ∷ 0x03 ∷ []) ∷ drawn_line (0xFA ∷ 0x01 ∷ 0xFA ∷ 0x01 ∷ [])
      ∷ drawn_line (0 ∷ 0 ∷ 0xF5 ∷ 0x03 ∷ []) ∷ drawn_line (0 ∷ 0 ∷ 0xF5 ∷ 0x03 ∷ 0x80 ∷ 0 ∷ []) ∷ drawn_line (0 ∷ 0 ∷ 0 ∷ 0xF5 ∷ 0x03 ∷ [])
      ∷ drawn_line (0 ∷ 0 ∷ 0xFA ∷ 0x01 ∷ 0xFA ∷ 0x01 ∷ []) ∷ drawn_line (0xFF ∷ 0xFF ∷ 0xFF ∷ 0xFF ∷ 0x0F ∷ []) ∷ [])
  -- 24 before left-over bytes, before 6 and before the next line's 5.
  pub step_first : Refuses 24
      (two_nodes (1 ∷ 0 ∷ 1 ∷ 10 ∷ 3 ∷ 3 ∷ 0 ∷ 0 ∷ 0xFA ∷ 0x01 ∷ 0xFA ∷ 0x01 ∷ 0 ∷ 0 ∷ []) ∷ close (1 ∷ 0 ∷ 1 ∷ 10 ∷ 3 ∷ 3 ∷ 0 ∷ 0xF5 ∷ 0x03 ∷ [])
      ∷ two_nodes (2 ∷ 0 ∷ 1 ∷ 10 ∷ 3 ∷ 3 ∷ 0xF5 ∷ 0x03 ∷ 0 ∷ 0 ∷ 0 ∷ 9 ∷ []) ∷ [])
  -- The upper ends of all ranges, and nine fields that differ: steps (-240, -150) and (-150, -130).
  pub greatest : decode
      (2 ∷ 0xFE ∷ 0xA1 ∷ 0x95 ∷ 0x11 ∷ 0x80 ∷ 0xD1 ∷ 0xCA ∷ 0x08 ∷ 0 ∷ 5 ∷ 1 ∷ 0 ∷ 1 ∷ 0xE0 ∷ 0xC6 ∷ 0x5B ∷ 7 ∷ 7
      ∷ 0xF4 ∷ 0x03 ∷ 0xF4 ∷ 0x03 ∷ 0xF4 ∷ 0x03 ∷ 0xF4 ∷ 0x03 ∷ 0 ∷ []) ≡
      whole
      (record {
        nodes = record { lon = 35_999_998; lat = 18_000_000 } ∷ record { lon = 0; lat = 5 } ∷ [];
        lines = record { start = 0; end = 1; length = 1_500_000; frc = 7; fow = 7; out = 4; back = 4 } ∷ [];
        bans = [];
      })
  pub in_order : decode (one_line (1 ∷ 0 ∷ 0xAC ∷ 0x02 ∷ 2 ∷ 5 ∷ 10 ∷ 100 ∷ 100 ∷ 120 ∷ 0 ∷ [])) ≡
      whole
      (record {
        nodes = record { lon = 0; lat = 0 } ∷ record { lon = 100; lat = 0 } ∷ [];
        lines = record { start = 1; end = 0; length = 300; frc = 2; fow = 5; out = 21; back = 20 } ∷ [];
        bans = [];
      })
  -- "Left-over bytes come last", but before refusal 6, which 5 precedes as well. Also two nodes that do not stand side by side.
  pub left_over : Refuses 2 (two_nodes (some_line (0 ∷ 0 ∷ [])) ∷ close (some_line (0 ∷ 0 ∷ [])) ∷ [])
  pub line_first : Refuses 5 (close (1 ∷ 0 ∷ 0 ∷ []) ∷ one_line (0 ∷ 1 ∷ 1 ∷ 7 ∷ 8 ∷ 0 ∷ 0 ∷ 0 ∷ 0 ∷ 0 ∷ 0 ∷ []) ∷ [])
  pub same_codes : Refuses 6 (close (some_line (0 ∷ [])) ∷ (3 ∷ 0 ∷ 0 ∷ 100 ∷ 0 ∷ 1 ∷ 0 ∷ some_line (0 ∷ [])) ∷ [])
  -- Counts of 1 and 512 banned turns, and none; 513. A pair's numbers: missing, or not shortest, also after a pair that names no line.
  pub ban_counts : Refuses 2 (two_nodes (some_line []) ∷ two_nodes (some_line (1 ∷ [])) ∷ two_nodes (some_line (0x80 ∷ 0x04 ∷ [])) ∷ [])
  pub bad_ban_counts : Refuses 3 (two_nodes (some_line (0x81 ∷ 0x04 ∷ [])) ∷ [])
  pub ban_numbers : Refuses 2
      (two_nodes (two_lines (1 ∷ 0 ∷ [])) ∷ two_nodes (two_lines (1 ∷ 0x80 ∷ 0 ∷ 1 ∷ [])) ∷ two_nodes (two_lines (2 ∷ 0 ∷ 9 ∷ 0x80 ∷ 0 ∷ 1 ∷ []))
      ∷ two_nodes (two_lines (1 ∷ 0 ∷ 9 ∷ 0 ∷ [])) ∷ [])
  pub bans_in_order : decode (two_nodes (two_lines (3 ∷ 1 ∷ 0 ∷ 0 ∷ 1 ∷ 1 ∷ 0 ∷ []))) ≡
      whole
      (record {
        nodes = record { lon = 0; lat = 0 } ∷ record { lon = 100; lat = 0 } ∷ [];
        lines =
            record { start = 0; end = 1; length = 10; frc = 3; fow = 3; out = 20; back = 20 }
            ∷ record { start = 1; end = 0; length = 20; frc = 3; fow = 3; out = 20; back = 20 }
            ∷ [];
        bans = record { first = 1; second = 0 } ∷ record { first = 0; second = 1 } ∷ record { first = 1; second = 0 } ∷ [];
      })
  -- "A pair names no line": line 2, after either line, and 4,294,967,295; "or its second line does not start where its first ends", also where a pair fits before
  -- it or after it. After 6.
  pub stray_bans : Refuses 23
      (two_nodes (two_lines (1 ∷ 2 ∷ 0 ∷ [])) ∷ two_nodes (two_lines (1 ∷ 0 ∷ 2 ∷ [])) ∷ two_nodes (two_lines (1 ∷ 1 ∷ 2 ∷ []))
      ∷ two_nodes (two_lines (1 ∷ 0xFF ∷ 0xFF ∷ 0xFF ∷ 0xFF ∷ 0x0F ∷ 0 ∷ []))
      ∷ two_nodes (two_lines (1 ∷ 0 ∷ 0 ∷ [])) ∷ two_nodes (two_lines (2 ∷ 0 ∷ 1 ∷ 1 ∷ 1 ∷ [])) ∷ two_nodes (two_lines (2 ∷ 1 ∷ 1 ∷ 0 ∷ 1 ∷ [])) ∷ [])
  pub codes_first : Refuses 6 (close (two_lines (1 ∷ 0 ∷ 0 ∷ [])) ∷ [])

pub map_cases : MapCases
unfolding computing
map_cases =
    record {
      numbers = refl;
      no_numbers = refl;
      written_numbers = refl;
      node_counts = refl;
      bad_node_counts = refl;
      coordinates = refl;
      bad_coordinates = refl;
      line_counts = refl;
      bad_line_counts = refl;
      line_fields = refl;
      bad_line_fields = refl;
      steps = refl;
      bad_steps = refl;
      step_first = refl;
      greatest = refl;
      in_order = refl;
      left_over = refl;
      line_first = refl;
      same_codes = refl;
      ban_counts = refl;
      bad_ban_counts = refl;
      ban_numbers = refl;
      bans_in_order = refl;
      stray_bans = refl;
      codes_first = refl;
    }
