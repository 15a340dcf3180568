-- What an answer says of a point as it is given (paper 02, W5; refusals 7, 9 and 25), and of the bytes put for it.
use Rattle.std.specs.Prelude.{ℕ, ◌≤◌, ◌<◌, ◌≡◌, List, length, Result, Ok, Err}
use Rattle.model.specs.Refusal.{refusal_of}
use Rattle.model.specs.Map.{Map}
use Rattle.model.specs.Work.{placed}
use Rattle.model.specs.PointAlong.{GivenPoint, passes, refused, check_point}
use Rattle.model.specs.Answer.{PointWriteAnswer}
use Rattle.model.specs.declared.Refusal.{Refusal}
use Rattle.model.specs.declared.Refusal.TheVariants as why

abbrev pub ChecksPoint : Map → GivenPoint → Result (Unit {0}) Refusal → Type 0
ChecksPoint m p (Ok _) = check_point m p ≡ passes
ChecksPoint m p (Err why) = check_point m p ≡ refused (refusal_of why)

-- An answer, with what the buffer held before and holds after it, for these bytes: they stand first and the rest is unchanged, or they need more room
-- than there is (11) and nothing is changed.
abbrev pub PutsPoint : List ℕ → List ℕ → List ℕ → PointWriteAnswer → Type 0
PutsPoint bs before after (Ok n) = (n ≡ length bs) × (n ≤ length before) × (after ≡ placed bs before)
PutsPoint bs before after (Err r) = (r ≡ why.BytesShort) × (length before < length bs) × (after ≡ before)
