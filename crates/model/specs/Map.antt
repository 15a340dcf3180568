-- The depot map: what its bytes hold, or which row of the table refuses them (paper 01, "The depot map"; paper 02, W1 and W3; refusals 2 to 6, 23 and 24).
use Rattle.std.specs.Prelude.{ℕ, zero, suc, ◌-◌, Bool, true, false, cond, ◌&&◌, ◌||◌, List, [], ◌∷◌, ◌++◌, length, get_or, ltb, leb, eqb}
use Rattle.model.specs.Number.{got, faulty, number}
use Rattle.model.specs.Field.{code}
use Rattle.model.specs.Sector.{step_added, greatest_step, sector}
use Rattle.model.specs.Refusal.{Refused, row}

-- Coordinates as the map stores them, in hundred-thousandths of a degree: longitude + 18,000,000, latitude + 9,000,000.
pub record Node : Type 0 where
  pub lon : ℕ
  pub lat : ℕ

-- A line runs one way, from node `start` to node `end`. Sectors: `out` as seen from the start node, `back` from the end node. Nothing looks at
-- the steps that they are found from (W3), so a line does not keep them.
pub record Line : Type 0 where
  pub start : ℕ
  pub end : ℕ
  pub length : ℕ
  pub frc : ℕ
  pub fow : ℕ
  pub out : ℕ
  pub back : ℕ

-- A turn from one line into another, which starts where the first ends (W1).
pub record Turn : Type 0 where
  pub first : ℕ
  pub second : ℕ

-- `bans` are the banned turns: "pairs of line numbers, the second not allowed straight after the first" (W1).
pub record Map : Type 0 where
  pub nodes : List Node
  pub lines : List Line
  pub bans : List Turn

-- What stands in place of a line that the map does not have.
abbrev pub no_line : Line
no_line = record { start = 0; end = 0; length = 0; frc = 0; fow = 0; out = 0; back = 0 }

-- "Count of nodes (2 to 512)", "count of lines (1 to 1,024)", "a line is 1 to 1,500,000", in centimetres (W8). W1: "a count of 0 to 512"
-- pairs.
abbrev pub greatest_node_count : ℕ
greatest_node_count = 512

abbrev pub greatest_line_count : ℕ
greatest_line_count = 1_024

abbrev pub greatest_line_length : ℕ
greatest_line_length = 1_500_000

abbrev pub greatest_ban_count : ℕ
greatest_ban_count = 512

-- "A number is .. at most 4,294,967,295."
abbrev pub greatest_number : ℕ
greatest_number = 4_294_967_295

-- What some map bytes are: a map, or refused with a number of the table.
pub data MapAnswer : Type 0 where
  whole : Map → MapAnswer
  refused : Refused → MapAnswer

-- The next number, held to the range `low` to `high`, whose refusal is `n`; then `rest`.
unfoldable pub field : List ℕ → ℕ → ℕ → Refused → (ℕ → List ℕ → MapAnswer) → MapAnswer
field bs low high n rest =
    elim (number bs) [
      | got x after ↦ elim (leb low x && leb x high) [ true ↦ rest x after | false ↦ refused n ]
      | faulty ↦ refused (row 2)
    ]

-- The codes of a node as 24 bits ("The bytes", "Code of a coordinate").
unfoldable pub lon_code : Node → ℕ
lon_code a = code 18_000_000 a.lon

unfoldable pub lat_code : Node → ℕ
lat_code a = code 9_000_000 a.lat

-- Refusal 6: "two nodes with the same pair of codes".
unfoldable pub same_codes : Node → Node → Bool
same_codes a b = eqb (lon_code a) (lon_code b) && eqb (lat_code a) (lat_code b)

unfoldable pub among : Node → List Node → Bool
among a [] = false
among a (b ∷ bs) = same_codes a b || among a bs

unfoldable pub clash : List Node → Bool
clash [] = false
clash (a ∷ rest) = among a rest || clash rest

-- Refusal 23 (W1): "a pair names no line, or its second line does not start where its first ends". This says of a pair that neither is so.
unfoldable pub fitting : List Line → Turn → Bool
fitting lines t =
    ltb t.first (length lines) && (ltb t.second (length lines) && eqb (get_or lines t.first no_line).end (get_or lines t.second no_line).start)

-- The same of each pair.
unfoldable pub all_fitting : List Line → List Turn → Bool
all_fitting lines [] = true
all_fitting lines (t ∷ ts) = fitting lines t && all_fitting lines ts

-- All numbers read: "left-over bytes come last", then refusal 6, and "after 6" refusal 23 (W1).
unfoldable pub ended : List ℕ → List Node → List Line → List Turn → MapAnswer
ended [] nodes lines bans =
    cond (clash nodes) (refused (row 6)) (cond (all_fitting lines bans) (whole (record { nodes = nodes; lines = lines; bans = bans })) (refused (row 23)))
ended (b ∷ bs) nodes lines bans = refused (row 2)

-- One banned turn: its two numbers; then `rest`. What they name is asked when the map is read whole, and not here (W1).
unfoldable pub read_ban : List ℕ → (Turn → List ℕ → MapAnswer) → MapAnswer
read_ban bs rest =
    field bs 0 greatest_number (row 2) λ first bs₁.
    field bs₁ 0 greatest_number (row 2) λ second bs₂.
    rest (record { first = first; second = second }) bs₂

-- `left` banned turns more, after those read so far (W1).
unfoldable pub decode_bans : ℕ → List ℕ → List Node → List Line → List Turn → MapAnswer
decode_bans zero bs nodes lines bans = ended bs nodes lines bans
decode_bans (suc left) bs nodes lines bans = read_ban bs λ ban after. decode_bans left after nodes lines (bans ++ ban ∷ [])

-- "In place of each bearing, the point 20 m along it as two whole decimetre steps, east and north", refused with "24 (in byte order with 2 to 5) a
-- step out of range or both zero, the latter a fault of the north step" (W3); then `rest` with their sector.
unfoldable pub read_steps : List ℕ → (ℕ → List ℕ → MapAnswer) → MapAnswer
read_steps bs rest =
    field bs 0 greatest_step (row 24) λ east bs₁.
    field bs₁ 0 greatest_step (row 24) λ north bs₂.
    elim (eqb east step_added && eqb north step_added) [
      | true ↦ refused (row 24)
      | false ↦ rest (sector east north) bs₂
    ]

-- One line: its nine numbers, the node numbers up to `last`; then `rest`. "Equal ends are a fault of the end node's number."
unfoldable pub read_line : ℕ → List ℕ → (Line → List ℕ → MapAnswer) → MapAnswer
read_line last bs rest =
    field bs 0 last (row 5) λ start bs₁.
    field bs₁ 0 last (row 5) λ end bs₂.
    elim (eqb start end) [
      | true ↦ refused (row 5)
      | false ↦
          field bs₂ 1 greatest_line_length (row 5) λ len bs₃.
          field bs₃ 0 7 (row 5) λ frc bs₄.
          field bs₄ 0 7 (row 5) λ fow bs₅.
          read_steps bs₅ λ out bs₆.
          read_steps bs₆ λ back bs₇.
          rest (record { start = start; end = end; length = len; frc = frc; fow = fow; out = out; back = back }) bs₇
    ]

-- `left` lines more, after the lines read so far; then the banned turns: "after the lines, a map lists a count of 0 to 512" of them, "the count's
-- range being 3" (W1).
unfoldable pub decode_lines : ℕ → List ℕ → List Node → List Line → MapAnswer
decode_lines zero bs nodes lines = field bs 0 greatest_ban_count (row 3) λ count bs₁. decode_bans count bs₁ nodes lines []
decode_lines (suc left) bs nodes lines =
    read_line (length nodes - 1) bs λ line after. decode_lines left after nodes (lines ++ line ∷ [])

-- One node: its two numbers; then `rest`. "Longitude -18,000,000 to 17,999,998, latitude -9,000,000 to 9,000,000."
unfoldable pub read_node : List ℕ → (Node → List ℕ → MapAnswer) → MapAnswer
read_node bs rest =
    field bs 0 35_999_998 (row 4) λ lon bs₁.
    field bs₁ 0 18_000_000 (row 4) λ lat bs₂.
    rest (record { lon = lon; lat = lat }) bs₂

-- `left` nodes more, after the nodes read so far; then the lines.
unfoldable pub decode_nodes : ℕ → List ℕ → List Node → MapAnswer
decode_nodes zero bs nodes = field bs 1 greatest_line_count (row 3) λ count bs₁. decode_lines count bs₁ nodes []
decode_nodes (suc left) bs nodes = read_node bs λ node after. decode_nodes left after (nodes ++ node ∷ [])

-- The whole map: "the first faulty number in the map decides".
unfoldable pub decode : List ℕ → MapAnswer
decode bs = field bs 2 greatest_node_count (row 3) λ count bs₁. decode_nodes count bs₁ []
