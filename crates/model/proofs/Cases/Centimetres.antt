-- "The ridge example with lengths and offset tenfold keeps its bytes; its offset span must be worked out afresh. The marked D cases take tenfold lengths too"
-- (paper 02, W8): the ridge then and now, D next to its edges, and offsets of a centimetre. The marked D cases are in Edges, the span is `byte_80_on_the_ridge`
-- there and `reads_from_5000` in Tie.
use Prim.Native.Nat.{ℕ, ◌≤◌}
use mathlib.Core.Path.{◌≡◌, refl}
use mathlib.Core.List.{List, [], ◌∷◌, ◌++◌, map}
use native.Mathlib.Omega.{arith}
use lib.ListN.{take}
use Rattle.model.specs.Field.{distance}
use Rattle.model.specs.Map.{Map}
use Rattle.model.specs.Reference.{byte, Reference}
use Rattle.model.specs.Stretch.{Stretch, stretch_of}
use Rattle.model.specs.Choice.{stretch_bytes}
use Rattle.model.specs.Span.{SpanRead}
use Rattle.model.specs.Work.{work_length}
use Rattle.model.specs.Outcome.{read, ReadEnd, ReadOn, Reads, written, Writes}
use Rattle.model.specs.Tenfold.{decimetre_distance, decimetre_point, decimetre_points, decimetre_reference, decimetre_bytes, tenfold, tenfold_stretch}
use Rattle.model.proofs.Outcomes.{on_reads}
use Rattle.model.proofs.LegTests.{good_filled}
use Rattle.model.proofs.BestFound.{best_of_all, on_all_tests}
use Rattle.model.proofs.Cases.Computing.{computing}
use Rattle.model.proofs.Cases.Edges.{span, spanned}
use Rattle.model.proofs.Cases.Ridge.{map_bytes, line, ridge, three_points, three_from5000, road, point, stretch, cuts, three_legs, on_the_ridge}
use Rattle.model.proofs.Cases.Tie.{cut_in_two, legs_read}

-- The ridge as paper 01 has it, in decimetres.
abbrev decimetre_ridge : Map
decimetre_ridge =
    record {
      nodes = ridge.nodes;
      lines = line 0 1 1_000 8 24 ∷ line 1 3 1_000 8 24 ∷ line 1 2 500 0 16 ∷ line 2 3 500 12 24 ∷ [];
      bans = [];
    }

pub record Centimetres : Type 0 where
  -- The ridge is that one with "lengths and offset tenfold", and "keeps its bytes": those of the writer as it was.
  pub ridge_tenfold : tenfold decimetre_ridge ≡ ridge
  pub stretch_tenfold : tenfold_stretch (stretch 500) ≡ stretch 5_000
  pub bytes_then : decimetre_bytes decimetre_ridge cuts (stretch 500) ≡ three_from5000
  pub bytes_now : stretch_bytes ridge cuts (stretch 5_000) ≡ three_from5000
  -- D, a centimetre before and behind the first three edges and the last.
  pub before_edges : map distance (1 ∷ 5_859 ∷ 11_719 ∷ 17_579 ∷ 1_494_299 ∷ []) ≡ 0 ∷ 0 ∷ 1 ∷ 2 ∷ 254 ∷ []
  pub behind_edges : map distance (5_861 ∷ 11_720 ∷ 17_580 ∷ 1_494_300 ∷ 1_499_999 ∷ []) ≡ 1 ∷ 2 ∷ 3 ∷ 255 ∷ 255 ∷ []

pub centimetres : Centimetres
unfolding computing decimetre_distance decimetre_point decimetre_points decimetre_reference decimetre_bytes
centimetres =
    record { ridge_tenfold = refl; stretch_tenfold = refl; bytes_then = refl; bytes_now = refl; before_edges = refl; behind_edges = refl }

-- ---- a centimetre at either end of the ridge's stretch: both offsets are flagged, and both bytes are 0

abbrev pub one_centimetre : Stretch
one_centimetre = stretch_of (0 ∷ 1 ∷ []) 1 1

-- R is 64 + 32 + 24.
abbrev pub one_centimetre_bytes : List ℕ
one_centimetre_bytes = take 22 three_points ++ 0x78 ∷ 0 ∷ 0 ∷ []

abbrev one_centimetre_reference : Reference
one_centimetre_reference =
    record { lon = 0; lat = 0; points = point 1 1_000 ∷ point 1 1_000 ∷ []; arrives = road 24; pos = byte 0; neg = byte 0 }

-- Half a 256th of 10,000 is 19.53.
byte_0_on_the_ridge : SpanRead 10_000 (byte 0) (span 1 19)
unfolding computing
byte_0_on_the_ridge = spanned 10_000 0 1 19 (omega arith) (omega arith) (λ o g. omega arith)

module _ (work room : ℕ) (full : work_length ≤ work) where
  pub one_centimetre_written : (tests : ℕ) → 3 ≤ tests → 25 ≤ room → Writes map_bytes one_centimetre tests work room (written one_centimetre_bytes 3 0)
  unfolding computing
  one_centimetre_written tests all fits =
      on_all_tests map_bytes one_centimetre {m = ridge} {r = one_centimetre} tests work room _ full on_the_ridge.map refl all
      (best_of_all (good_filled ridge) cut_in_two (omega arith))

  pub one_centimetre_read : 2 ≤ room → Reads map_bytes one_centimetre_bytes work room (read (0 ∷ 1 ∷ []) (span 1 19) (span 1 19))
  unfolding computing
  one_centimetre_read fits =
      on_reads map_bytes one_centimetre_bytes {r = one_centimetre_reference} work room _ full on_the_ridge.map refl
      (ReadOn.every_leg {legs = three_legs} refl legs_read
      (ReadEnd.accepted (record { pos_read = byte_0_on_the_ridge; neg_read = byte_0_on_the_ridge }) (omega arith) (omega arith)))
