-- A refusal as the paper gives it, and which one each case of the enum `Refusal` is (paper 01, "Refused, by place"; 21 to 23: paper 02, W1; 24: W3; 25: W5;
-- 26: W7; 27 and 28: W9; 30: W10).
use Rattle.std.specs.Prelude.{ℕ}
use Rattle.model.specs.declared.Refusal.{Refusal}
use Rattle.model.specs.declared.Refusal.TheVariants.{WorkAreaShort, MapNumber, MapCount, MapCoordinate, MapLine, EqualCodes, StretchLines, StretchGap, StretchOffsets, NoChoice, BytesShort, ReferenceLength, ReferenceStatus, ReferenceBits, ReferenceFlags, NoNode, NoReading, SeveralReadings, NoOffset, LinesShort, StretchBan, JoinedBan, MapBan, MapStep, PointMarks, Unfinished, MessageOrder, MessageFull, OtherMap}

-- A number of the table. "Refusals 16, 17 and 18 also carry the first point or leg concerned, from 0."
pub data Refused : Type 0 where
  row : ℕ → Refused
  row_at : ℕ → ℕ → Refused

unfoldable pub number_of : Refused → ℕ
number_of (row n) = n
number_of (row_at n k) = n

-- The point or leg, 0 where there is none.
unfoldable pub place_of : Refused → ℕ
place_of (row n) = 0
place_of (row_at n k) = k

-- What each case of the enum is.
unfoldable pub refusal_of : Refusal → Refused
refusal_of WorkAreaShort = row 1
refusal_of MapNumber = row 2
refusal_of MapCount = row 3
refusal_of MapCoordinate = row 4
refusal_of MapLine = row 5
refusal_of EqualCodes = row 6
refusal_of StretchLines = row 7
refusal_of StretchGap = row 8
refusal_of StretchOffsets = row 9
refusal_of NoChoice = row 10
refusal_of BytesShort = row 11
refusal_of ReferenceLength = row 12
refusal_of ReferenceStatus = row 13
refusal_of ReferenceBits = row 14
refusal_of ReferenceFlags = row 15
refusal_of (NoNode point) = row_at 16 point
refusal_of (NoReading leg) = row_at 17 leg
refusal_of (SeveralReadings leg) = row_at 18 leg
refusal_of NoOffset = row 19
refusal_of LinesShort = row 20
refusal_of StretchBan = row 21
refusal_of JoinedBan = row 22
refusal_of MapBan = row 23
refusal_of MapStep = row 24
refusal_of PointMarks = row 25
refusal_of Unfinished = row 26
refusal_of MessageOrder = row 27
refusal_of MessageFull = row 28
refusal_of OtherMap = row 30
