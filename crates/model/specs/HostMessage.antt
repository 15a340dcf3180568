-- Messages for a C host (paper 02, W9 and W10): what it holds of one is four numbers by value, and a part is a place and a count.
use Rattle.std.specs.Prelude.{ℕ, ◌≡◌, cond, List, [], ◌∷◌, length, take, drop, get_or, eqb, Err, Ok}
use Rattle.model.specs.declared.Message.{Message}
use Rattle.model.specs.declared.Message.TheVariants.{Closed, Open}
use Rattle.model.specs.Answer.{MessageAnswer}
use Rattle.model.specs.Refusal.{number_of, refusal_of}
use Rattle.model.specs.Message.{reference_number, start_of_number}
use Rattle.model.specs.Work.{work_length}
use Rattle.model.specs.Call.{Answered}
use Rattle.model.specs.MessageCall.{opening, closing, adding, buffer_added}
use Rattle.model.specs.MessageStart.{StartOutcome, started, Starts, buffer_started}
use Rattle.model.specs.MessageHistory.{finished, Call, opens, adds, closes, CallOutcome, done, refused, outcome, after, room, state_of, MessagePromise}

-- The refusal of the call that returned it or 0, the count of finished bytes, 0 where no reference is open, and the count of bytes added to the open one.
pub record HostMessage : Type 0 where
  pub refusal : ℕ
  pub bytes : ℕ
  pub is_open : ℕ
  pub added : ℕ

-- The message that the host means. A call does not look at the refusal, and what was added counts only where one is open.
unfoldable pub message_of : HostMessage → Message
message_of h = cond (eqb h.is_open 0) (Closed h.bytes) (Open h.bytes h.added)

-- What the host gets for an answer. On a refusal the rest is as it was given.
unfoldable pub host_message : HostMessage → MessageAnswer → HostMessage
host_message given (Ok (Closed finished)) = record { refusal = 0; bytes = finished; is_open = 0; added = 0 }
host_message given (Ok (Open finished added)) = record { refusal = 0; bytes = finished; is_open = 1; added = added }
host_message given (Err why) =
    record { refusal = number_of (refusal_of why); bytes = given.bytes; is_open = given.is_open; added = given.added }

-- What the host gets for starting one: the front's count of bytes, or the refusal and nothing else. "The entry points hold the work area themselves."
unfoldable pub host_started : StartOutcome → HostMessage
host_started (started bs) = record { refusal = 0; bytes = length bs; is_open = 0; added = 0 }
host_started (StartOutcome.refused r) = record { refusal = number_of r; bytes = 0; is_open = 0; added = 0 }

pub record HostStartCall (mb before : List ℕ) (a : HostMessage) (after : List ℕ) : Type 0 where
  pub answered : Answered (λ given o. given ≡ host_started o) buffer_started (Starts mb work_length (length before)) before after a

-- A part of a message: where it starts, and its count of bytes.
pub record HostPart : Type 0 where
  pub start : ℕ
  pub bytes : ℕ

unfoldable pub host_part : ℕ → List ℕ → HostPart
host_part n message = record { start = start_of_number n message; bytes = length (reference_number n message) }

-- A host's call that adds: what it gets, and the buffer before and after it.
pub record HostAdds (given : HostMessage) (buffer portion : List ℕ) (a : HostMessage) (buffer' : List ℕ) : Type 0 where
  pub answers : a ≡ host_message given (adding (message_of given) (length buffer) portion)
  pub buffer_after : buffer' ≡ buffer_added (message_of given) buffer portion

-- One call of a host, and several, the latest first, each with what the one before returned: what the C functions promise, and nothing else.
pub data HostMade : HostMessage → List ℕ → Call → HostMessage → List ℕ → Type 0 where
  opened : {given : HostMessage} {buffer : List ℕ} {a : HostMessage} → a ≡ host_message given (opening (message_of given)) → HostMade given buffer opens a buffer
  added : {given : HostMessage} {buffer portion : List ℕ} {a : HostMessage} {buffer' : List ℕ} → HostAdds given buffer portion a buffer' →
      HostMade given buffer (adds portion) a buffer'
  closed : {given : HostMessage} {buffer : List ℕ} {a : HostMessage} → a ≡ host_message given (closing (message_of given)) →
      HostMade given buffer closes a buffer

pub data HostHistory (h₀ : HostMessage) (b₀ : List ℕ) : List Call → HostMessage → List ℕ → Type 0 where
  begun : HostHistory h₀ b₀ [] h₀ b₀
  then : {earlier : List Call} {given : HostMessage} {buffer : List ℕ} {call : Call} {a : HostMessage} {buffer' : List ℕ} →
      HostHistory h₀ b₀ earlier given buffer → HostMade given buffer call a buffer' → HostHistory h₀ b₀ (call ∷ earlier) a buffer'
  not_started : {earlier : List Call} {given : HostMessage} {buffer mb : List ℕ} {a : HostMessage} {buffer' : List ℕ} →
      HostHistory h₀ b₀ earlier given buffer → HostStartCall mb buffer a buffer' → (a.refusal ≡ 0 → ⊥) → HostHistory h₀ b₀ earlier given buffer'

-- A message was started, refusal 0, and these calls were made since.
pub record HostBegun (mb b₀ : List ℕ) (calls : List Call) (h : HostMessage) (buffer : List ℕ) : Type 0 where
  pub h₀ : HostMessage
  pub b₁ : List ℕ
  pub start : HostStartCall mb b₀ h₀ b₁
  pub accepted : h₀.refusal ≡ 0
  pub since : HostHistory h₀ b₁ calls h buffer

-- What the host is told of an outcome: the number of the refusal, or 0 and the message.
abbrev pub HostTells : List ℕ → HostMessage → CallOutcome → Type 0
HostTells mb a (done c) = (a.refusal ≡ 0) × (message_of a ≡ state_of mb c)
HostTells mb a (refused n) = a.refusal ≡ n

-- The promise over several calls for a host. `parts`: what it gets for number n of the finished bytes is the place in its buffer of the n-th that was closed.
pub record HostMessagePromise (mb b₀ : List ℕ) (calls : List Call) (h : HostMessage) (buffer : List ℕ) : Type 0 where
  pub promise : MessagePromise mb b₀ calls (message_of h) buffer
  pub answers : {call : Call} {a : HostMessage} {buffer' : List ℕ} → HostMade h buffer call a buffer' →
      HostTells mb a (outcome mb (room b₀) (after mb (room b₀) calls) call)
  pub parts : (n : ℕ) → take (host_part n (take h.bytes buffer)).bytes (drop (host_part n (take h.bytes buffer)).start buffer)
      ≡ get_or (finished (after mb (room b₀) calls)) n []

unfoldable pub HostMessageHistories : Type 0
HostMessageHistories =
    (mb b₀ : List ℕ) (calls : List Call) (h : HostMessage) (buffer : List ℕ) → HostBegun mb b₀ calls h buffer → HostMessagePromise mb b₀ calls h buffer
