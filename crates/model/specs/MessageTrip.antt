-- The claim of W10 (paper 02): "what is promised on reading back" holds for references out of a message "where the maps are the same bytes". A message is
-- started on a map, references are written on that map, added and closed, asked for and read out of the message.
use Rattle.std.specs.Prelude.{ℕ, ◌≤◌, ◌<◌, ◌≡◌, List, [], ◌∷◌, length, take, get_or, Ok}
use Rattle.model.specs.declared.Span.{Span}
use Rattle.model.specs.declared.Message.{Message}
use Rattle.model.specs.Stretch.{Stretch, remaining}
use Rattle.model.specs.Work.{work_length}
use Rattle.model.specs.Outcome.{ReadOutcome, read}
use Rattle.model.specs.Call.{WriteCall}
use Rattle.model.specs.PointAlong.{GivenPoint, own_leg, PointReadOutcome, PointWriteCall}
use Rattle.model.specs.Demand3.{ReadBack, Alike}
use Rattle.model.specs.PointTrip.{PointBack, PointsAlike}
use Rattle.model.specs.Message.{reference_number}
use Rattle.model.specs.MessageCall.{finished_bytes}
use Rattle.model.specs.MessageHistory.{whole, finished, Call, opens, adds, closes, after, Made, Begun, room}
use Rattle.model.specs.OfMessage.{ReadsOfMessage, PointReadsOfMessage}
use Rattle.model.specs.Answer.{bytes_written}

-- As `ReadAs` of demand 3 and `PointReadAs` of W5, with the message beside the reference's bytes.
pub record ReadOutAs (mb message bytes lines : List ℕ) (pos neg : Span) : Type 0 where
  pub accepts : (work room : ℕ) → work_length ≤ work → length lines ≤ room → ReadsOfMessage mb message bytes work room (read lines pos neg)
  pub nothing_else : (work room : ℕ) (o : ReadOutcome) → work_length ≤ work → length lines ≤ room → ReadsOfMessage mb message bytes work room o →
      o ≡ read lines pos neg

pub record PointReadOutAs (mb message bytes : List ℕ) (p : GivenPoint) (span : Span) : Type 0 where
  pub accepts : (work room : ℕ) → work_length ≤ work → 0 < room →
      PointReadsOfMessage mb message bytes work room (PointReadOutcome.read (own_leg p) span p.orientation p.side)
  pub nothing_else : (work room : ℕ) (o : PointReadOutcome) → work_length ≤ work → 0 < room → PointReadsOfMessage mb message bytes work room o →
      o ≡ PointReadOutcome.read (own_leg p) span p.orientation p.side

-- What is asked for as number n of a message, and read out of it, is a stretch that was written; or a point.
pub record OutOf (mb : List ℕ) (s : Stretch) (tests : ℕ) (message : List ℕ) (n : ℕ) : Type 0 where
  pub back : ReadBack mb s tests (reference_number n message)
  pub reads : ReadOutAs mb message (reference_number n message) (remaining back.map s).lines back.pos back.neg

pub record PointOutOf (mb : List ℕ) (p : GivenPoint) (message : List ℕ) (n : ℕ) : Type 0 where
  pub back : PointBack mb p (reference_number n message)
  pub reads : PointReadOutAs mb message (reference_number n message) p back.span

-- These bytes were added to a message that was started on the map, as number n of those that were closed; `message` is what is finished of it, at any time since.
pub record Sent (mb bytes : List ℕ) (n : ℕ) (message : List ℕ) : Type 0 where
  pub b₀ : List ℕ
  pub calls : List Call
  pub m : Message
  pub buffer : List ℕ
  pub begun : Begun mb b₀ calls m buffer
  pub there : n < length (finished (after mb (room b₀) calls))
  pub closed : get_or (finished (after mb (room b₀) calls)) n [] ≡ bytes
  pub message_is : message ≡ take (finished_bytes m) buffer

-- A single claim about calls. `put`: opening, adding and closing, the last not refused, puts the bytes behind those that were closed before. `back`, `alike`: as
-- demand 3 has them, of a writing that was accepted, and of two whose references are the same bytes; `point_back`, `point_alike`: as W5.
pub record MessageTrip : Type 0 where
  pub put : (mb b₀ : List ℕ) (calls : List Call) (m : Message) (buffer : List ℕ) (rs : List (List ℕ)) (bytes : List ℕ) →
      Begun mb b₀ (adds bytes ∷ opens ∷ calls) m buffer → after mb (room b₀) calls ≡ whole rs → (m' : Message) (buffer' : List ℕ) →
      Made m buffer closes (Ok m') buffer' → Sent mb bytes (length rs) (take (finished_bytes m') buffer')
  pub back : (mb message : List ℕ) (n : ℕ) (s : Stretch) (tests : ℕ) (work before work' bytes : List ℕ) (count made excess : ℕ) →
      WriteCall mb s tests work before (Ok (bytes_written count made excess)) work' bytes → Sent mb (take count bytes) n message → OutOf mb s tests message n
  pub alike : (mb message message' : List ℕ) (n n' : ℕ) (s t : Stretch) (tests tests' : ℕ) (w b w' bytes v c v' bytes' : List ℕ)
      (count made excess count' made' excess' : ℕ) → WriteCall mb s tests w b (Ok (bytes_written count made excess)) w' bytes →
      WriteCall mb t tests' v c (Ok (bytes_written count' made' excess')) v' bytes' → Sent mb (take count bytes) n message →
      Sent mb (take count' bytes') n' message' → reference_number n message ≡ reference_number n' message' →
      Alike mb (reference_number n message) s t tests tests'
  pub point_back : (mb message : List ℕ) (n : ℕ) (p : GivenPoint) (work before work' bytes : List ℕ) (count : ℕ) →
      PointWriteCall mb p work before (Ok count) work' bytes → Sent mb (take count bytes) n message → PointOutOf mb p message n
  pub point_alike : (mb message message' : List ℕ) (n n' : ℕ) (p q : GivenPoint) (w b w' bytes v c v' bytes' : List ℕ) (count count' : ℕ) →
      PointWriteCall mb p w b (Ok count) w' bytes → PointWriteCall mb q v c (Ok count') v' bytes' →
      Sent mb (take count bytes) n message → Sent mb (take count' bytes') n' message' → reference_number n message ≡ reference_number n' message' →
      PointsAlike mb (reference_number n message) p q
