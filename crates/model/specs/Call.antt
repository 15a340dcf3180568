-- Calls: the answer, and what each call leaves in what it was lent (paper 01, "Refused, by place", last paragraph).
use Rattle.std.specs.Prelude.{ℕ, ◌≡◌, List, length, Err, Ok}
use Rattle.model.specs.declared.Refusal.{Refusal}
use Rattle.model.specs.declared.Span.{Span}
use Rattle.model.specs.Answer.{ReadAnswer, WriteAnswer, bytes_written, lines_read}
use Rattle.model.specs.Refusal.{refusal_of}
use Rattle.model.specs.Stretch.{Stretch}
use Rattle.model.specs.Outcome.{ReadOutcome, read, Reads, WriteOutcome, written, Writes}
use Rattle.model.specs.Work.{cleared, placed}

-- "A refusal leaves the byte and line buffers unchanged."
unfoldable pub lines_after : ReadOutcome → List ℕ → List ℕ
lines_after (read ls pos neg) lines = placed ls lines
lines_after (ReadOutcome.refused r) lines = lines

unfoldable pub bytes_after : WriteOutcome → List ℕ → List ℕ
bytes_after (written bs made excess) bytes = placed bs bytes
bytes_after (WriteOutcome.refused r) bytes = bytes

-- "The reader answers the count of lines and, for each offset, its span."
pub data ReadAnswers : ReadAnswer → ReadOutcome → Type 0 where
  lines : {ls : List ℕ} {pos neg : Span} → ReadAnswers (Ok (lines_read (length ls) pos neg)) (read ls pos neg)
  refusal : {why : Refusal} → ReadAnswers (Err why) (ReadOutcome.refused (refusal_of why))

-- "The writer answers the count of bytes", and the tests made and the excess (W7).
pub data WriteAnswers : WriteAnswer → WriteOutcome → Type 0 where
  bytes : {bs : List ℕ} {made excess : ℕ} → WriteAnswers (Ok (bytes_written (length bs) made excess)) (written bs made excess)
  refusal : {why : Refusal} → WriteAnswers (Err why) (WriteOutcome.refused (refusal_of why))

-- An answer to a part of the definitions' question: an outcome that the part allows, the answer that tells it, and the buffer before and after. The
-- parts of a call promise it; a whole call has the work area besides.
pub record Answered {Outcome Answer : Type 0} (Tells : Answer → Outcome → Type 0) (left : Outcome → List ℕ → List ℕ) (Asks : Outcome → Type 0)
    (before after : List ℕ) (a : Answer) : Type 0 where
  pub outcome : Outcome
  pub asked : Asks outcome
  pub answers : Tells a outcome
  pub buffer_after : after ≡ left outcome before

-- An answer of the reader, with the line buffer; one of the writer, with the byte buffer.
abbrev pub ReadAnswered : (ReadOutcome → Type 0) → List ℕ → List ℕ → ReadAnswer → Type 0
ReadAnswered Asks before after a = Answered ReadAnswers lines_after Asks before after a

abbrev pub WriteAnswered : (WriteOutcome → Type 0) → List ℕ → List ℕ → WriteAnswer → Type 0
WriteAnswered Asks before after a = Answered WriteAnswers bytes_after Asks before after a

-- A call with a work area: an answer, and the area cleared.
pub record Called {Outcome Answer : Type 0} (Tells : Answer → Outcome → Type 0) (left : Outcome → List ℕ → List ℕ) (Asks : Outcome → Type 0)
    (work work' before after : List ℕ) (a : Answer) : Type 0 where
  pub answered : Answered Tells left Asks before after a
  pub work_after : work' ≡ cleared work

-- A call of the reader: its answer, and the work area and the line buffer before and after it.
pub record ReadCall (mb ref work before : List ℕ) (a : ReadAnswer) (work' after : List ℕ) : Type 0 where
  pub called : Called ReadAnswers lines_after (Reads mb ref (length work) (length before)) work work' before after a

-- A call of the writer with a number of leg tests: its answer, and the work area and the byte buffer before and after it.
pub record WriteCall (mb : List ℕ) (s : Stretch) (tests : ℕ) (work before : List ℕ) (a : WriteAnswer) (work' after : List ℕ) : Type 0 where
  pub called : Called WriteAnswers bytes_after (Writes mb s tests (length work) (length before)) work work' before after a
