-- What a C program's writing of a point and reading of the bytes comes to (paper 02, W5).
use Rattle.std.specs.Prelude.{ℕ, ◌≤◌, ◌≡◌, ◌≢◌, List, length, take, Option, Some, None, Result, Ok, Err}
use Rattle.model.specs.Work.{placed}
use Rattle.model.specs.PointAlong.{read, GivenPoint, own_leg}
use Rattle.model.specs.Host.{word_bytes, HostPoint, host_point, HostPointReadCall, HostPointWriteCall}
use Rattle.model.specs.PointTrip.{PointBack, PointsAlike}
use Rattle.openlr.specs.Host.{as_point}
use Rattle.openlr.specs.declared.point.Point.{Point}
use Rattle.round_trip.specs.declared.Back.{Back}
use Rattle.round_trip.specs.declared.Which.{Which}
use Rattle.round_trip.specs.declared.Which.TheVariants.{First, Second}

-- What was written is read. The claim over the definitions holds of the bytes; the reader's call is one of the definitions; and with a line buffer of four bytes
-- or more it answers that one line, the claim's span, the orientation and the side.
pub record HandedPoint (mb : List ℕ) (p : GivenPoint) (bs lines lines' : List ℕ) (a : HostPoint) : Type 0 where
  pub back : PointBack mb p bs
  pub call : HostPointReadCall mb bs lines a lines'
  pub accepts : 4 ≤ length lines →
      (a ≡ host_point (read (own_leg p) back.span p.orientation p.side)) × (lines' ≡ placed (word_bytes (own_leg p)) lines)

-- The writer's call is one of the definitions, and wrote this many bytes; or it refused with this number, and the byte buffer is as it was.
abbrev pub WrotePoint : List ℕ → GivenPoint → List ℕ → List ℕ → ℕ → Type 0
WrotePoint mb p b b' count = HostPointWriteCall mb p b (record { refusal = 0; bytes = count }) b'

abbrev pub NoPoint : List ℕ → GivenPoint → List ℕ → List ℕ → ℕ → Type 0
NoPoint mb p b b' why = HostPointWriteCall mb p b (record { refusal = why; bytes = 0 }) b' × (why ≢ 0) × (b' ≡ b)

-- Where the writer refuses nothing is changed; where it accepts, the first bytes, as many as it wrote, are read.
abbrev pub PointTripTells : List ℕ → GivenPoint → List ℕ → List ℕ → List ℕ → List ℕ → Result (Back ℕ Point) ℕ → Type 0
PointTripTells mb p b b' l l' (Err why) = NoPoint mb p b b' why × (l' ≡ l)
PointTripTells mb p b b' l l' (Ok back) =
    WrotePoint mb p b b' back.written × HandedPoint mb p (take back.written b') l l' (as_point back.answer)

-- Where two points are accepted with the same bytes, they are alike, and what reading the bytes gives is so for both. Otherwise nothing is read.
abbrev pub PointPairTells : List ℕ → GivenPoint → GivenPoint → List ℕ → List ℕ → List ℕ → List ℕ → List ℕ → List ℕ →
    Result (Option (Back ℕ Point)) (Which ℕ) → Type 0
PointPairTells mb p q b b' o o' l l' (Err (First why)) = NoPoint mb p b b' why × (o' ≡ o) × (l' ≡ l)
PointPairTells mb p q b b' o o' l l' (Err (Second why)) = ((count : ℕ) × WrotePoint mb p b b' count) × NoPoint mb q o o' why × (l' ≡ l)
PointPairTells mb p q b b' o o' l l' (Ok None) =
    ((count : ℕ) × (size : ℕ) × WrotePoint mb p b b' count × WrotePoint mb q o o' size × (take count b' ≡ take size o' → ⊥)) × (l' ≡ l)
PointPairTells mb p q b b' o o' l l' (Ok (Some back)) =
    let count = back.written in
    WrotePoint mb p b b' count × WrotePoint mb q o o' count × (take count b' ≡ take count o') × PointsAlike mb (take count b') p q ×
    HandedPoint mb p (take count b') l l' (as_point back.answer) × HandedPoint mb q (take count b') l l' (as_point back.answer)
