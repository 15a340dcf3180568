-- The promise over several calls: "Promises over several calls run from an empty start with these calls only and nothing else writing" (paper 02, W9), from a
-- start on a map (W10).
use Rattle.std.specs.Prelude.{ℕ, ◌≤◌, ◌<◌, min, ◌≡◌, true, cond, ◌&&◌, List, [], ◌∷◌, ◌++◌, length, take, get_or, leb, Err, Ok}
use Rattle.model.specs.declared.Refusal.{Refusal}
use Rattle.model.specs.declared.Message.{Message}
use Rattle.model.specs.declared.Message.TheVariants.{Closed, Open}
use Rattle.model.specs.Answer.{MessageAnswer}
use Rattle.model.specs.Refusal.{number_of, refusal_of}
use Rattle.model.specs.Work.{placed}
use Rattle.model.specs.Reference.{longest_reference}
use Rattle.model.specs.Front.{front_bytes, same_map}
use Rattle.model.specs.Message.{longest_message, framed, framed_all, listed}
use Rattle.model.specs.MessageCall.{finished_bytes, opening, closing, Adds, finished_number}
use Rattle.model.specs.MessageStart.{StartCall}

-- What a message is, whatever holds it: the references that were finished, and the bytes so far of one that is open.
pub data Content : Type 0 where
  whole : List (List ℕ) → Content
  partial : List (List ℕ) → List ℕ → Content

abbrev pub finished : Content → List (List ℕ)
finished (whole rs) = rs
finished (partial rs bs) = rs

-- Its bytes, where it was started on the map of the bytes `mb`. "Once bytes are added, the open one's length so far and its bytes stand right behind the last
-- finished one."
unfoldable pub finished_of : List ℕ → List (List ℕ) → List ℕ
finished_of mb rs = front_bytes mb ++ framed_all rs

unfoldable pub content_bytes : List ℕ → Content → List ℕ
content_bytes mb (whole rs) = finished_of mb rs
content_bytes mb (partial rs bs) = finished_of mb rs ++ framed bs

-- The calls on it: "A reference is opened, gets its bytes in portions, and is closed."
pub data Call : Type 0 where
  opens : Call
  adds : List ℕ → Call
  closes : Call

-- What a call comes to: the message as it then is, or a number of the table.
pub data CallOutcome : Type 0 where
  done : Content → CallOutcome
  refused : ℕ → CallOutcome

-- Refusal 28 of an addition that makes the open reference `bs`, where the message may take `room` bytes. The front's numbers "count towards the buffer's
-- limit" (W10).
unfoldable pub lengthened : List ℕ → ℕ → List (List ℕ) → List ℕ → CallOutcome
lengthened mb room rs bs =
    cond (leb (length bs) longest_reference && leb (length (content_bytes mb (partial rs bs))) room) (done (partial rs bs)) (refused 28)

-- A call on a message. Refusal 27: "opening when one is open, adding or closing when none is, closing with nothing added".
unfoldable pub outcome : List ℕ → ℕ → Content → Call → CallOutcome
outcome mb room (whole rs) opens = done (partial rs [])
outcome mb room (whole rs) (adds portion) = refused 27
outcome mb room (whole rs) closes = refused 27
outcome mb room (partial rs bs) opens = refused 27
outcome mb room (partial rs bs) (adds portion) = lengthened mb room rs (bs ++ portion)
outcome mb room (partial rs []) closes = refused 27
outcome mb room (partial rs (b ∷ bs)) closes = done (whole (rs ++ (b ∷ bs) ∷ []))

-- "A refusal changes nothing."
unfoldable pub left : Content → CallOutcome → Content
left c (done c') = c'
left c (refused n) = c

-- What some calls, the latest first, make of a message that was just started.
unfoldable pub after : List ℕ → ℕ → List Call → Content
after mb room [] = whole []
after mb room (call ∷ earlier) = left (after mb room earlier) (outcome mb room (after mb room earlier) call)

-- ---- calls that were made

-- The message that the caller goes on with.
abbrev pub stays : Message → MessageAnswer → Message
stays m (Ok m') = m'
stays m (Err why) = m

-- One call, its answer, and the buffer before and after it: what the functions promise, and nothing else.
pub data Made : Message → List ℕ → Call → MessageAnswer → List ℕ → Type 0 where
  opened : {m : Message} {buffer : List ℕ} {a : MessageAnswer} → a ≡ opening m → Made m buffer opens a buffer
  added : {m : Message} {buffer portion : List ℕ} {a : MessageAnswer} {buffer' : List ℕ} → Adds m buffer portion a buffer' →
      Made m buffer (adds portion) a buffer'
  closed : {m : Message} {buffer : List ℕ} {a : MessageAnswer} → a ≡ closing m → Made m buffer closes a buffer

-- These calls were made, the latest first, from a message `m₀` in a buffer that held `b₀` on, and nothing else wrote in it. Between them messages may have been
-- started in that buffer, on any map, and refused: the message under way goes on (W10).
pub data History (m₀ : Message) (b₀ : List ℕ) : List Call → Message → List ℕ → Type 0 where
  begun : History m₀ b₀ [] m₀ b₀
  then : {earlier : List Call} {m : Message} {buffer : List ℕ} {call : Call} {a : MessageAnswer} {buffer' : List ℕ} →
      History m₀ b₀ earlier m buffer → Made m buffer call a buffer' → History m₀ b₀ (call ∷ earlier) (stays m a) buffer'
  not_started : {earlier : List Call} {m : Message} {buffer mb work work' buffer' : List ℕ} {why : Refusal} →
      History m₀ b₀ earlier m buffer → StartCall mb work buffer (Err why) work' buffer' → History m₀ b₀ earlier m buffer'

-- A message was started on the map of the bytes `mb` in a buffer that held `b₀`, and these calls were made since. Whatever was in the buffer before, a start
-- that is not refused begins afresh: so this is said of each such start, also of one while another message was under way.
pub record Begun (mb b₀ : List ℕ) (calls : List Call) (m : Message) (buffer : List ℕ) : Type 0 where
  pub work : List ℕ
  pub work' : List ℕ
  pub m₀ : Message
  pub b₁ : List ℕ
  pub start : StartCall mb work b₀ (Ok m₀) work' b₁
  pub since : History m₀ b₁ calls m buffer

-- ---- what holds after them

-- How many bytes of a buffer a message may take.
abbrev pub room : List ℕ → ℕ
room buffer = min (length buffer) longest_message

-- What the caller holds of a message.
unfoldable pub state_of : List ℕ → Content → Message
state_of mb (whole rs) = Closed (length (finished_of mb rs))
state_of mb (partial rs bs) = Open (length (finished_of mb rs)) (length bs)

-- An answer tells an outcome: the number of the refusal, or the message, which after closing is its count of bytes.
pub data AnswerTells (mb : List ℕ) : MessageAnswer → CallOutcome → Type 0 where
  now : {c : Content} → AnswerTells mb (Ok (state_of mb c)) (done c)
  refusal : {why : Refusal} → AnswerTells mb (Err why) (refused (number_of (refusal_of why)))

-- After any calls the buffer holds what they make of the message that was started, and all behind it is as it was. It keeps within its room, and the next
-- call answers what it comes to. Reference n is the n-th that was closed, and a later call does not change it. The finished bytes, received, give what was
-- closed, and pass the readers' test on that map (W10).
pub record MessagePromise (mb b₀ : List ℕ) (calls : List Call) (m : Message) (buffer : List ℕ) : Type 0 where
  pub state : m ≡ state_of mb (after mb (room b₀) calls)
  pub bytes : buffer ≡ placed (content_bytes mb (after mb (room b₀) calls)) b₀
  pub within : length (content_bytes mb (after mb (room b₀) calls)) ≤ room b₀
  pub answers : {call : Call} {a : MessageAnswer} {buffer' : List ℕ} → Made m buffer call a buffer' →
      AnswerTells mb a (outcome mb (room b₀) (after mb (room b₀) calls) call)
  pub numbered : (n : ℕ) → finished_number m buffer n ≡ get_or (finished (after mb (room b₀) calls)) n []
  pub lasting : {later : List Call} {m' : Message} {buffer' : List ℕ} → History m buffer later m' buffer' → (n : ℕ) →
      n < length (finished (after mb (room b₀) calls)) → finished_number m' buffer' n ≡ finished_number m buffer n
  pub received : listed (take (finished_bytes m) buffer) ≡ finished (after mb (room b₀) calls)
  pub passes : same_map mb (take (finished_bytes m) buffer) ≡ true

-- The promise as one statement.
unfoldable pub MessageHistories : Type 0
MessageHistories =
    (mb b₀ : List ℕ) (calls : List Call) (m : Message) (buffer : List ℕ) → Begun mb b₀ calls m buffer → MessagePromise mb b₀ calls m buffer
