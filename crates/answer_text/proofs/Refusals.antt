-- A refusal's text, by whether it has a point or a leg.
use Prim.Native.Nat.{ℕ}
use mathlib.Core.Path.{◌≡◌, refl}
use mathlib.Core.List.{◌++◌}
use Rattle.model.specs.declared.Refusal.{Refusal}
use Rattle.model.specs.declared.Refusal.TheVariants.{WorkAreaShort, MapNumber, MapCount, MapCoordinate, MapLine, EqualCodes, StretchLines, StretchGap, StretchOffsets, NoChoice, BytesShort, ReferenceLength, ReferenceStatus, ReferenceBits, ReferenceFlags, NoNode, NoReading, SeveralReadings, NoOffset, LinesShort, StretchBan, JoinedBan, MapBan, MapStep, PointMarks, Unfinished, MessageOrder, MessageFull, OtherMap}
use Rattle.model.specs.Refusal.{Refused, row_at, number_of, refusal_of}
use Rattle.model.specs.Text.{numbered, refused_word, space, refusal}

pub with_place : {r : Refused} {number n place : ℕ} → number ≡ number_of r → r ≡ row_at n place →
    numbered refused_word number ++ numbered space place ≡ refusal r
unfolding refusal number_of
with_place e p = rw (e, p)

-- The variants but those of refusals 16, 17 and 18.
pub without_place_lem : (why : Refusal) → ((k : ℕ) → why ≡ NoNode k → ⊥) → ((k : ℕ) → why ≡ NoReading k → ⊥) → ((k : ℕ) → why ≡ SeveralReadings k → ⊥) →
    numbered refused_word (number_of (refusal_of why)) ≡ refusal (refusal_of why)
unfolding refusal refusal_of number_of
without_place_lem WorkAreaShort e f g = refl
without_place_lem MapNumber e f g = refl
without_place_lem MapCount e f g = refl
without_place_lem MapCoordinate e f g = refl
without_place_lem MapLine e f g = refl
without_place_lem EqualCodes e f g = refl
without_place_lem StretchLines e f g = refl
without_place_lem StretchGap e f g = refl
without_place_lem StretchOffsets e f g = refl
without_place_lem NoChoice e f g = refl
without_place_lem BytesShort e f g = refl
without_place_lem ReferenceLength e f g = refl
without_place_lem ReferenceStatus e f g = refl
without_place_lem ReferenceBits e f g = refl
without_place_lem ReferenceFlags e f g = refl
without_place_lem (NoNode k) e f g = absurd (e k refl)
without_place_lem (NoReading k) e f g = absurd (f k refl)
without_place_lem (SeveralReadings k) e f g = absurd (g k refl)
without_place_lem NoOffset e f g = refl
without_place_lem LinesShort e f g = refl
without_place_lem StretchBan e f g = refl
without_place_lem JoinedBan e f g = refl
without_place_lem MapBan e f g = refl
without_place_lem MapStep e f g = refl
without_place_lem PointMarks e f g = refl
without_place_lem Unfinished e f g = refl
without_place_lem MessageOrder e f g = refl
without_place_lem MessageFull e f g = refl
without_place_lem OtherMap e f g = refl
