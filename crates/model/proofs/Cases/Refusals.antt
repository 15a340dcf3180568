-- Each case of the enum `Refusal` is its row of the table "Refused, by place" of paper 01, or of paper 02, in the order of the numbers.
use mathlib.Core.Path.{◌≡◌, refl}
use mathlib.Core.List.{[], ◌∷◌, map}
use Rattle.model.specs.Refusal.{row, row_at, refusal_of}
use Rattle.model.proofs.Cases.Computing.{computing}
use Rattle.model.specs.declared.Refusal.TheVariants as Why

pub refusals : map refusal_of
    (Why.WorkAreaShort ∷ Why.MapNumber ∷ Why.MapCount ∷ Why.MapCoordinate ∷ Why.MapLine ∷ Why.EqualCodes ∷ Why.StretchLines ∷ Why.StretchGap
    ∷ Why.StretchOffsets ∷ Why.NoChoice ∷ Why.BytesShort ∷ Why.ReferenceLength ∷ Why.ReferenceStatus ∷ Why.ReferenceBits ∷ Why.ReferenceFlags
    ∷ Why.NoNode 4 ∷ Why.NoReading 5 ∷ Why.SeveralReadings 6 ∷ Why.NoOffset ∷ Why.LinesShort
    ∷ Why.StretchBan ∷ Why.JoinedBan ∷ Why.MapBan ∷ Why.MapStep ∷ Why.PointMarks ∷ Why.Unfinished ∷ []) ≡
    row 1 ∷ row 2 ∷ row 3 ∷ row 4 ∷ row 5 ∷ row 6 ∷ row 7 ∷ row 8 ∷ row 9 ∷ row 10 ∷ row 11 ∷ row 12 ∷ row 13 ∷ row 14 ∷ row 15 ∷ row_at 16 4
    ∷ row_at 17 5 ∷ row_at 18 6 ∷ row 19 ∷ row 20 ∷ row 21 ∷ row 22 ∷ row 23 ∷ row 24 ∷ row 25 ∷ row 26 ∷ []
unfolding computing
refusals = refl
