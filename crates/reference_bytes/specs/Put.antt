-- What is put into the byte buffer (paper 01, "The bytes"; refusal 11).
use Rattle.std.specs.Prelude.{ℕ, Option, Some, None, ◌+◌, ◌≤◌, ◌<◌, ◌≡◌, cond, List, [], ◌∷◌, ◌++◌, length, get_or, eqb}
use Rattle.std.proofs.Math.Seq.{slice}
use Rattle.model.specs.Map.{Map, lon_code, lat_code}
use Rattle.model.specs.Lines.{LineAttributes, line_at, node_at, total, first_of, last_of, arriving}
use Rattle.model.specs.Stretch.{Stretch}
use Rattle.model.specs.Reference.{status_byte, bytes3, byte_p, offset_bytes}
use Rattle.model.specs.Choice.{good, from_node, offset_of}
use Rattle.model.specs.Work.{placed}
use Rattle.stretches.specs.Known.{Known}
use Rattle.point_choice.specs.Cuts.{Route, Tested}

-- Where leg `t` starts, by the cuts; and its lines.
abbrev pub cut_at : List ℕ → ℕ → ℕ
cut_at cs t = get_or (0 ∷ cs) t 0

abbrev pub cut_leg : List ℕ → List ℕ → ℕ → List ℕ
cut_leg lines cs t = slice (cut_at cs t) (cut_at cs (t + 1)) lines

-- The cuts `cs` make so many legs of some lines, each of which may be used; 0 and the cuts stand first in the table.
pub record CutInto (m : Map) (lines table : List ℕ) (legs : ℕ) (cs : List ℕ) : Type 0 where
  pub known : Known (length m.lines) lines
  pub some : 0 < length lines
  pub few : length lines ≤ 64
  pub route : Route (Tested (good m) lines) (length lines) 0 cs
  pub count : length cs ≡ legs
  pub cuts : (t : ℕ) → t ≤ legs → get_or table t 0 ≡ cut_at cs t

-- The offsets end on the first and on the last line.
pub record Inside (m : Map) (s : Stretch) : Type 0 where
  pub pos : s.pos < (line_at m (first_of s.lines)).length
  pub neg : s.neg < (line_at m (last_of s.lines)).length

-- The status byte and the first point's codes.
unfoldable pub start_bytes : Map → List ℕ → List ℕ
start_bytes m lines =
    status_byte ∷ bytes3 (lon_code (node_at m (from_node m lines))) (bytes3 (lat_code (node_at m (from_node m lines))) [])

-- An offset's byte on a leg of some length, if it is flagged; how many bytes that are, and the flag in R.
abbrev pub offset_part : ℕ → ℕ → List ℕ
offset_part leg offset = offset_bytes (offset_of leg offset)

unfoldable pub flagged : ℕ → ℕ → ℕ
flagged offset weight = cond (eqb offset 0) 0 weight

-- P and R of the last point, and the bytes from there on: the offsets' bytes are those on the first and on the last leg.
unfoldable pub last_bytes : LineAttributes → ℕ → ℕ → List ℕ
last_bytes a pos neg = byte_p a ∷ (flagged pos 64 + flagged neg 32 + a.sector) ∷ []

unfoldable pub end_bytes : Map → List ℕ → List ℕ → List ℕ → ℕ → ℕ → List ℕ
end_bytes m lines first last pos neg =
    last_bytes (arriving m (last_of lines)) pos neg ++ (offset_part (total m first) pos ++ offset_part (total m last) neg)

-- An answer, with what the buffer held before and holds after it, for these bytes: they stand first and the rest is unchanged, or they
-- need more room than there is and nothing is changed.
abbrev pub Puts : List ℕ → List ℕ → List ℕ → Option ℕ → Type 0
Puts bs before after (Some n) = (n ≡ length bs) × (n ≤ length before) × (after ≡ placed bs before)
Puts bs before after None = (length before < length bs) × (after ≡ before)
