-- What a front that was put, or not, is an answer to.
use Prim.Native.Nat.{ℕ, ◌≤◌, ◌<◌}
use mathlib.Core.Path.{◌≡◌, refl}
use mathlib.Core.List.{List}
use lib.ListN.{length}
use borrow.Author.Tests.{le-leb, lt-leb}
use Rattle.model.specs.declared.Refusal.{Refusal}
use Rattle.model.specs.declared.Refusal.TheVariants.{WorkAreaShort, MessageFull}
use Rattle.model.specs.declared.Message.TheVariants.{Closed}
use Rattle.model.specs.Answer.{MessageAnswer}
use Rattle.std.specs.Prelude.{Ok, Err}
use Rattle.model.specs.Refusal.{refusal_of}
use Rattle.model.specs.Map.{MapAnswer, decode}
use Rattle.model.specs.Work.{work_length, cleared, placed}
use Rattle.model.specs.Opening.{OnMap}
use Rattle.model.specs.Front.{front_bytes}
use Rattle.model.specs.MessageStart.{StartOutcome, started, start_on, now, refusal, buffer_started, StartAnswered, StartCall}
use Rattle.model.proofs.Answering as Answering

-- A refusal leaves the buffer.
refused_start : {Asks : StartOutcome → Type 0} {buffer : List ℕ} (why : Refusal) → Asks (StartOutcome.refused (refusal_of why)) →
    StartAnswered Asks buffer buffer (Err why)
unfolding buffer_started
refused_start why h = record { outcome = StartOutcome.refused (refusal_of why); asked = h; answers = refusal; buffer_after = refl }

pub no_room : (mb buffer after : List ℕ) → length buffer < length (front_bytes mb) → after ≡ buffer →
    StartAnswered (λ o. o ≡ start_on mb (length buffer)) buffer after (Err MessageFull)
unfolding start_on refusal_of
no_room mb buffer after h e = rw e (refused_start MessageFull (rw (start_on, lt-leb (length (front_bytes mb)) (length buffer) h)))

pub put : (mb buffer after : List ℕ) (count : ℕ) → count ≡ length (front_bytes mb) → length (front_bytes mb) ≤ length buffer →
    after ≡ placed (front_bytes mb) buffer → StartAnswered (λ o. o ≡ start_on mb (length buffer)) buffer after (Ok (Closed count))
unfolding start_on buffer_started
put mb buffer after count e h p =
    rw e
    (record {
      outcome = started (front_bytes mb);
      asked = rw (start_on, le-leb (length (front_bytes mb)) (length buffer) h);
      answers = now;
      buffer_after = p;
    })

pub map_refused_lem : (mb buffer : List ℕ) (why : Refusal) (room : ℕ) → decode mb ≡ MapAnswer.refused (refusal_of why) →
    StartAnswered (OnMap StartOutcome.refused (λ m. λ o. o ≡ start_on mb room) (decode mb)) buffer buffer (Err why)
map_refused_lem mb buffer why room e = rw e (refused_start why refl)

-- An area that is too short, told at once.
pub area_short : (mb buffer work : List ℕ) → length work < work_length → StartCall mb work buffer (Err WorkAreaShort) work buffer
unfolding refusal_of
area_short mb buffer work h =
    record { called = Answering.area_short StartOutcome.refused (λ m. λ o. o ≡ start_on mb (length buffer)) mb h (refused_start WorkAreaShort refl) }

pub called : (mb before : List ℕ) {after work work' : List ℕ} {a : MessageAnswer} → (length work < work_length → (a ≡ Err WorkAreaShort) × (after ≡ before)) →
    (work_length ≤ length work → StartAnswered (OnMap StartOutcome.refused (λ m. λ o. o ≡ start_on mb (length before)) (decode mb)) before after a) →
    work' ≡ cleared work → StartCall mb work before a work' after
unfolding refusal_of
called mb before short ran e =
    record {
      called = Answering.stepped StartOutcome.refused (λ m. λ o. o ≡ start_on mb (length before)) mb (refused_start WorkAreaShort refl) short ran e;
    }
