-- Answers to the definitions' questions, put together from those of the parts.
use Prim.Native.Nat.{ℕ, ◌≤◌, ◌<◌}
use mathlib.Core.Path.{◌≡◌, refl, subst}
use mathlib.Core.List.{List}
use lib.ListN.{length}
use Rattle.model.specs.Map.{Map, MapAnswer, decode}
use Rattle.model.specs.Refusal.{refusal_of}
use Rattle.model.specs.Stretch.{Stretch, StretchAnswer, check_stretch}
use Rattle.model.specs.Outcome.{WriteOutcome, WriteStretch, WriteMap}
use Rattle.model.specs.Work.{work_length, cleared}
use Rattle.model.specs.Call.{WriteAnswered, WriteCall}
use Rattle.model.specs.declared.Refusal.{Refusal}
use Rattle.model.specs.Answer.{WriteAnswer}
use Rattle.std.specs.Prelude.{Err}
use Rattle.model.proofs.Answering.{refused_write}
use Rattle.model.proofs.Answering as Answering
use Rattle.model.specs.declared.Refusal.TheVariants as why

-- A stretch, or a map, that is refused.
pub stretch_refused : (m : Map) (s : Stretch) {bytes : List ℕ} (tests room : ℕ) (r : Refusal) → check_stretch m s ≡ StretchAnswer.refused (refusal_of r) →
    WriteAnswered (WriteStretch m (check_stretch m s) tests room) bytes bytes (Err r)
stretch_refused m s tests room r e = refused_write r (rw e refl)

pub map_refused_lem : (map : List ℕ) (s : Stretch) {bytes : List ℕ} (tests room : ℕ) (r : Refusal) → decode map ≡ MapAnswer.refused (refusal_of r) →
    WriteAnswered (WriteMap (decode map) s tests room) bytes bytes (Err r)
map_refused_lem map s tests room r e = refused_write r (rw e refl)

-- The whole call.
pub called : (mb : List ℕ) (s : Stretch) (tests : ℕ) (before : List ℕ) {after work work' : List ℕ} {a : WriteAnswer} →
    (length work < work_length → (a ≡ Err why.WorkAreaShort) × (after ≡ before)) →
    (work_length ≤ length work → WriteAnswered (WriteMap (decode mb) s tests (length before)) before after a) → work' ≡ cleared work →
    WriteCall mb s tests work before a work' after
unfolding refusal_of
called mb s tests before short ran e =
    record {
      called = Answering.stepped WriteOutcome.refused (λ m. WriteStretch m (check_stretch m s) tests (length before)) mb (refused_write why.WorkAreaShort refl) short ran e;
    }
