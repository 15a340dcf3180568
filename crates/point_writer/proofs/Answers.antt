-- Answers to the definitions' questions about a point, put together from those of the parts.
use Prim.Native.Nat.{ℕ, ◌+◌, ◌≤◌, ◌<◌}
use mathlib.Core.Path.{◌≡◌, refl, ap, ◌∙◌}
use mathlib.Core.List.{List}
use native.Mathlib.Omega.{arith}
use lib.ListN.{length, get_or}
use Rattle.model.specs.declared.Refusal.{Refusal}
use Rattle.model.specs.Answer.{PointWriteAnswer}
use Rattle.std.specs.Prelude.{Err}
use Rattle.model.specs.Refusal.{refusal_of}
use Rattle.model.specs.Map.{Map, MapAnswer, decode}
use Rattle.model.specs.Lines.{line_at}
use Rattle.model.specs.Work.{work_length, cleared}
use Rattle.model.specs.PointAlong.{GivenPoint, PointCheck, check_point, PointWriteOutcome, PointWriteChecked, PointWriteMap, point_bytes_after, PointWriteAnswers, PointWriteAnswered, PointWriteCall}
use Rattle.work_area.specs.Area.{line_place, Held}
use Rattle.model.proofs.Answering as Answering
use Rattle.model.specs.declared.Refusal.TheVariants as why

-- A refusal leaves the byte buffer.
pub refused_point : {Asks : PointWriteOutcome → Type 0} {bytes : List ℕ} (r : Refusal) → Asks (PointWriteOutcome.refused (refusal_of r)) →
    PointWriteAnswered Asks bytes bytes (Err r)
unfolding point_bytes_after
refused_point r h = record { outcome = PointWriteOutcome.refused (refusal_of r); asked = h; answers = PointWriteAnswers.refusal; buffer_after = refl }

-- A point, or a map, that is refused.
pub point_refused : (m : Map) (p : GivenPoint) {bytes : List ℕ} (room : ℕ) (r : Refusal) → check_point m p ≡ PointCheck.refused (refusal_of r) →
    PointWriteAnswered (PointWriteChecked m p (check_point m p) room) bytes bytes (Err r)
point_refused m p room r e = refused_point r (rw e refl)

pub map_refused_lem : (map : List ℕ) (p : GivenPoint) {bytes : List ℕ} (room : ℕ) (r : Refusal) → decode map ≡ MapAnswer.refused (refusal_of r) →
    PointWriteAnswered (PointWriteMap (decode map) p room) bytes bytes (Err r)
map_refused_lem map p room r e = refused_point r (rw e refl)

-- The whole call.
pub called : (mb : List ℕ) (p : GivenPoint) (before : List ℕ) {after work work' : List ℕ} {a : PointWriteAnswer} →
    (length work < work_length → (a ≡ Err why.WorkAreaShort) × (after ≡ before)) →
    (work_length ≤ length work → PointWriteAnswered (PointWriteMap (decode mb) p (length before)) before after a) → work' ≡ cleared work →
    PointWriteCall mb p work before a work' after
unfolding refusal_of
called mb p before short ran e =
    record {
      called = Answering.stepped PointWriteOutcome.refused (λ m. PointWriteChecked m p (check_point m p) (length before)) mb (refused_point why.WorkAreaShort refl) short ran e;
    }

-- The line's length, as it stands in the work area.
pub length_held : {w : List ℕ} {lines : ℕ} {m : Map} → Held w lines m → (number line r : ℕ) → number < lines → number ≡ line →
    r ≡ get_or w (line_place number + 2) 0 → r ≡ (line_at m line).length
length_held {m = m} h number line r inside same e = e ∙ h.line_held number 2 inside (omega arith) ∙ ap (λ (l : ℕ). (line_at m l).length) same
