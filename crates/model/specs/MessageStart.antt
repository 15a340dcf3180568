-- Starting a message: its front (paper 02, W10).
use Rattle.std.specs.Prelude.{ℕ, ◌≡◌, cond, List, length, leb, Err, Ok}
use Rattle.model.specs.declared.Refusal.{Refusal}
use Rattle.model.specs.declared.Message.TheVariants.{Closed}
use Rattle.model.specs.Answer.{MessageAnswer}
use Rattle.model.specs.Refusal.{Refused, row, refusal_of}
use Rattle.model.specs.Work.{placed}
use Rattle.model.specs.Opening.{Opens}
use Rattle.model.specs.Call.{Answered, Called}
use Rattle.model.specs.Front.{front_bytes}

-- What starting comes to: the front's bytes, or a refusal.
pub data StartOutcome : Type 0 where
  started : List ℕ → StartOutcome
  refused : Refused → StartOutcome

-- For bytes that are a map, in a buffer of `room` bytes: "starting a message in a buffer too short for them gives 28, after the map's own 1 to 6, 23 and 24".
unfoldable pub start_on : List ℕ → ℕ → StartOutcome
start_on mb room = cond (leb (length (front_bytes mb)) room) (started (front_bytes mb)) (refused (row 28))

abbrev pub Starts : List ℕ → ℕ → ℕ → StartOutcome → Type 0
Starts mb work room o = Opens refused (λ m. λ o. o ≡ start_on mb room) mb work o

-- A message that was started has its front and no reference. What was in the buffer does not count: no message is given to the call.
pub data StartAnswers : MessageAnswer → StartOutcome → Type 0 where
  now : {bs : List ℕ} → StartAnswers (Ok (Closed (length bs))) (started bs)
  refusal : {why : Refusal} → StartAnswers (Err why) (refused (refusal_of why))

-- The buffer after starting. A refusal changes nothing, and so a message under way goes on.
unfoldable pub buffer_started : StartOutcome → List ℕ → List ℕ
buffer_started (started bs) buffer = placed bs buffer
buffer_started (refused r) buffer = buffer

abbrev pub StartAnswered : (StartOutcome → Type 0) → List ℕ → List ℕ → MessageAnswer → Type 0
StartAnswered Asks before after a = Answered StartAnswers buffer_started Asks before after a

-- A call that starts a message: its answer, and the work area and the buffer before and after it.
pub record StartCall (mb work before : List ℕ) (a : MessageAnswer) (work' after : List ℕ) : Type 0 where
  pub called : Called StartAnswers buffer_started (Starts mb (length work) (length before)) work work' before after a
