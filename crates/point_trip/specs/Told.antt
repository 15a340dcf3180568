-- What writing a point and then reading the bytes comes to (paper 02, W5): "with a full work area and a line buffer that is not empty".
use Rattle.std.specs.Prelude.{ℕ, ◌≤◌, ◌<◌, ◌≡◌, List, length, take, Option, Some, None, Result, Ok, Err}
use Rattle.model.specs.Work.{work_length, placed}
use Rattle.model.specs.PointAlong.{GivenPoint, point_given, own_leg, PointReadCall, PointWriteCall}
use Rattle.model.specs.PointTrip.{PointBack, PointsAlike}
use Rattle.model.specs.Answer.{PointReadAnswer, point_read}
use Rattle.model.specs.declared.Refusal.{Refusal}
use Rattle.round_trip.specs.declared.Back.{Back}
use Rattle.round_trip.specs.declared.Which.{Which}
use Rattle.round_trip.specs.declared.Which.TheVariants.{First, Second}
use Rattle.point_trip.specs.declared.Given.{Given}

-- The point of the definitions.
abbrev pub as_given : Given → GivenPoint
as_given g = point_given g.line g.offset g.orientation g.side

-- What was written is read. The claim over the definitions holds of the bytes; the reader's call is one of the definitions; and with a full work area and a
-- line buffer that is not empty it answers that one line, the claim's span, the orientation and the side.
pub record HandedBack (mb : List ℕ) (p : GivenPoint) (bs work work' lines lines' : List ℕ) (a : PointReadAnswer) : Type 0 where
  pub back : PointBack mb p bs
  pub call : PointReadCall mb bs work lines a work' lines'
  pub accepts : work_length ≤ length work → 0 < length lines →
      (a ≡ Ok (point_read 1 back.span p.orientation p.side)) × (lines' ≡ placed (own_leg p) lines)

-- The writer's call is one of the definitions. Where it refuses nothing else is changed; where it accepts, the first bytes, as many as it wrote, are read.
abbrev pub TripTells : List ℕ → GivenPoint → List ℕ → List ℕ → List ℕ → List ℕ → List ℕ → List ℕ → List ℕ → List ℕ →
    Result (Back ℕ PointReadAnswer) Refusal → Type 0
TripTells mb p w w' b b' v v' l l' (Err why) = PointWriteCall mb p w b (Err why) w' b' × (v' ≡ v) × (l' ≡ l)
TripTells mb p w w' b b' v v' l l' (Ok back) =
    PointWriteCall mb p w b (Ok back.written) w' b' × HandedBack mb p (take back.written b') v v' l l' back.answer

-- Two points are written one after the other, the second with the work area that the first call left.
pub record BothWritten (mb : List ℕ) (p q : GivenPoint) (w w' b b' o o' : List ℕ) (count size : ℕ) : Type 0 where
  pub between : List ℕ
  pub first : PointWriteCall mb p w b (Ok count) between b'
  pub second : PointWriteCall mb q between o (Ok size) w' o'

-- Where both are accepted with the same bytes, they are alike, and what reading the bytes gives is so for both. Otherwise nothing is read.
abbrev pub PairTells : List ℕ → GivenPoint → GivenPoint → List ℕ → List ℕ → List ℕ → List ℕ → List ℕ → List ℕ → List ℕ → List ℕ → List ℕ → List ℕ →
    Result (Option (Back ℕ PointReadAnswer)) (Which Refusal) → Type 0
PairTells mb p q w w' b b' o o' v v' l l' (Err (First why)) = PointWriteCall mb p w b (Err why) w' b' × (o' ≡ o) × (v' ≡ v) × (l' ≡ l)
PairTells mb p q w w' b b' o o' v v' l l' (Err (Second why)) =
    ((between : List ℕ) × (count : ℕ) × PointWriteCall mb p w b (Ok count) between b' × PointWriteCall mb q between o (Err why) w' o') ×
    (v' ≡ v) × (l' ≡ l)
PairTells mb p q w w' b b' o o' v v' l l' (Ok None) =
    ((count : ℕ) × (size : ℕ) × BothWritten mb p q w w' b b' o o' count size × (take count b' ≡ take size o' → ⊥)) × (v' ≡ v) × (l' ≡ l)
PairTells mb p q w w' b b' o o' v v' l l' (Ok (Some back)) =
    let count = back.written in
    BothWritten mb p q w w' b b' o o' count count × (take count b' ≡ take count o') × PointsAlike mb (take count b') p q ×
    HandedBack mb p (take count b') v v' l l' back.answer × HandedBack mb q (take count b') v v' l l' back.answer
