-- Reading out of a message: the readers "get, beside the reference's own bytes, the message, and look only at its front; a reference read by itself has no
-- such numbers and never gets 30" (paper 02, W10).
use Rattle.std.specs.Prelude.{ℕ, ◌≡◌, Bool, true, false, List, length}
use Rattle.model.specs.Answer.{ReadAnswer, PointReadAnswer}
use Rattle.model.specs.Refusal.{Refused, row}
use Rattle.model.specs.Map.{Map}
use Rattle.model.specs.Reference.{parse}
use Rattle.model.specs.Opening.{Opens}
use Rattle.model.specs.Outcome.{ReadOutcome, ReadParsed}
use Rattle.model.specs.Work.{work_length}
use Rattle.model.specs.Call.{lines_after, ReadAnswers, Answered, Called}
use Rattle.model.specs.PointAlong.{parse_point, PointReadOutcome, PointReadParsed, point_lines_after, PointReadAnswers}
use Rattle.model.specs.Host.{host_room, HostRead, host_read, host_lines_after, HostPoint, host_point, host_point_lines_after}
use Rattle.model.specs.Front.{same_map}

-- "30 (after 23) count or sum differs or cannot be read": before the reference is looked at. Else the reader asks what it asks of a reference by itself.
abbrev pub OnFront : {Outcome : Type 0} → (Refused → Outcome) → (Outcome → Type 0) → Bool → Outcome → Type 0
OnFront refused Asks true o = Asks o
OnFront refused Asks false o = o ≡ refused (row 30)

-- Row by row: the front after the map after the work area.
abbrev pub OpensOfMessage : {Outcome : Type 0} → (Refused → Outcome) → (Map → Outcome → Type 0) → List ℕ → List ℕ → ℕ → Outcome → Type 0
OpensOfMessage refused Asks mb message work o = Opens refused (λ m. OnFront refused (Asks m) (same_map mb message)) mb work o

-- The reader's outcome for map bytes, a message, reference bytes, a work area of `work` numbers and a line buffer of `room` numbers.
abbrev pub ReadsOfMessage : List ℕ → List ℕ → List ℕ → ℕ → ℕ → ReadOutcome → Type 0
ReadsOfMessage mb message ref work room o = OpensOfMessage ReadOutcome.refused (λ m. ReadParsed m (parse ref) room) mb message work o

-- Likewise of points.
abbrev pub PointReadsOfMessage : List ℕ → List ℕ → List ℕ → ℕ → ℕ → PointReadOutcome → Type 0
PointReadsOfMessage mb message ref work room o = OpensOfMessage PointReadOutcome.refused (λ m. PointReadParsed m (parse_point ref) room) mb message work o

-- The calls: the answer, and the work area and the line buffer before and after it.
pub record ReadOfMessageCall (mb message ref work before : List ℕ) (a : ReadAnswer) (work' after : List ℕ) : Type 0 where
  pub called : Called ReadAnswers lines_after (ReadsOfMessage mb message ref (length work) (length before)) work work' before after a

pub record PointReadOfMessageCall (mb message ref work before : List ℕ) (a : PointReadAnswer) (work' after : List ℕ) : Type 0 where
  pub called : Called PointReadAnswers point_lines_after (PointReadsOfMessage mb message ref (length work) (length before)) work work' before after a

-- The same calls of a C host.
pub record HostReadOfMessageCall (mb message ref before : List ℕ) (a : HostRead) (after : List ℕ) : Type 0 where
  pub answered : Answered (λ given o. given ≡ host_read o) host_lines_after (ReadsOfMessage mb message ref work_length (host_room (length before))) before after a

pub record HostPointReadOfMessageCall (mb message ref before : List ℕ) (a : HostPoint) (after : List ℕ) : Type 0 where
  pub answered : Answered (λ given o. given ≡ host_point o) host_point_lines_after (PointReadsOfMessage mb message ref work_length (host_room (length before)))
      before after a
