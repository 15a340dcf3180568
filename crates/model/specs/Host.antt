-- The C host's calls (paper 01, "The product", second paragraph; of points: paper 02, W5): each line number as four bytes, low byte first.
use Rattle.std.specs.Prelude.{ℕ, ◌+◌, ◌*◌, ◌/◌, ◌%◌, min, ◌≡◌, cond, List, [], ◌∷◌, length, eqb}
use Rattle.model.specs.Refusal.{number_of, place_of}
use Rattle.model.specs.Stretch.{Stretch}
use Rattle.model.specs.Outcome.{ReadOutcome, read, Reads, WriteOutcome, written, Writes}
use Rattle.model.specs.Call.{Answered}
use Rattle.model.specs.Work.{work_length, placed}
use Rattle.model.specs.PointAlong.{PointReadOutcome, PointReads, GivenPoint, PointWriteOutcome, PointWrites, point_bytes_after}

-- The line numbers of some bytes; bytes beyond the last whole four are left out.
unfoldable pub words : List ℕ → List ℕ
words [] = []
words (a ∷ []) = []
words (a ∷ b ∷ []) = []
words (a ∷ b ∷ c ∷ []) = []
words (a ∷ b ∷ c ∷ d ∷ rest) = (a + 256 * b + 65_536 * c + 16_777_216 * d) ∷ words rest

-- The bytes of some line numbers.
unfoldable pub word_bytes : List ℕ → List ℕ
word_bytes [] = []
word_bytes (l ∷ ls) = l % 256 ∷ l / 256 % 256 ∷ l / 65_536 % 256 ∷ l / 16_777_216 % 256 ∷ word_bytes ls

-- "A byte list whose length is no multiple of four is refusal 7": it holds no line, and so gets 7 in its place.
unfoldable pub host_stretch : List ℕ → ℕ → ℕ → Stretch
host_stretch bytes pos neg = record { lines = cond (eqb (length bytes % 4) 0) (words bytes) []; pos = pos; neg = neg }

-- "A line buffer holds a quarter of its bytes, rounded down, and a list of over 1,024 lines is refusal 20."
abbrev pub greatest_host_lines : ℕ
greatest_host_lines = 1_024

unfoldable pub host_room : ℕ → ℕ
host_room bytes = min (bytes / 4) greatest_host_lines

-- The numbers that the host gets from the reader: a refusal or 0, its point or leg, the count of lines and the spans; 0 where they say nothing.
pub record HostRead : Type 0 where
  pub refusal : ℕ
  pub place : ℕ
  pub lines : ℕ
  pub pos_least : ℕ
  pub pos_greatest : ℕ
  pub neg_least : ℕ
  pub neg_greatest : ℕ

unfoldable pub host_read : ReadOutcome → HostRead
host_read (read ls pos neg) =
    record {
      refusal = 0;
      place = 0;
      lines = length ls;
      pos_least = pos.least;
      pos_greatest = pos.greatest;
      neg_least = neg.least;
      neg_greatest = neg.greatest;
    }
host_read (ReadOutcome.refused r) =
    record { refusal = number_of r; place = place_of r; lines = 0; pos_least = 0; pos_greatest = 0; neg_least = 0; neg_greatest = 0 }

-- And from the writer: a refusal or 0, the count of bytes, the tests made and the excess (W7).
pub record HostWritten : Type 0 where
  pub refusal : ℕ
  pub bytes : ℕ
  pub tests : ℕ
  pub excess : ℕ

unfoldable pub host_written : WriteOutcome → HostWritten
host_written (written bs made excess) = record { refusal = 0; bytes = length bs; tests = made; excess = excess }
host_written (WriteOutcome.refused r) = record { refusal = number_of r; bytes = 0; tests = 0; excess = 0 }

-- The host's buffers after a call.
unfoldable pub host_lines_after : ReadOutcome → List ℕ → List ℕ
host_lines_after (read ls pos neg) lines = placed (word_bytes ls) lines
host_lines_after (ReadOutcome.refused r) lines = lines

unfoldable pub host_bytes_after : WriteOutcome → List ℕ → List ℕ
host_bytes_after (written bs made excess) bytes = placed bs bytes
host_bytes_after (WriteOutcome.refused r) bytes = bytes

-- A host's call of the reader, with the line buffer before and after it. "The entry points hold the work area themselves."
pub record HostReadCall (mb ref before : List ℕ) (a : HostRead) (after : List ℕ) : Type 0 where
  pub answered : Answered (λ given o. given ≡ host_read o) host_lines_after (Reads mb ref work_length (host_room (length before))) before after a

-- A host's call of the writer, with the byte buffer before and after it.
pub record HostWriteCall (mb stretch : List ℕ) (pos neg tests : ℕ) (before : List ℕ) (a : HostWritten) (after : List ℕ) : Type 0 where
  pub answered : Answered (λ given o. given ≡ host_written o) host_bytes_after (Writes mb (host_stretch stretch pos neg) tests work_length (length before))
      before after a

-- The numbers that the host gets from the reader of points (W5): a refusal or 0, its point or leg, the count of lines, the offset's span, the orientation
-- and the side; 0 where they say nothing.
pub record HostPoint : Type 0 where
  pub refusal : ℕ
  pub place : ℕ
  pub lines : ℕ
  pub least : ℕ
  pub greatest : ℕ
  pub orientation : ℕ
  pub side : ℕ

unfoldable pub host_point : PointReadOutcome → HostPoint
host_point (PointReadOutcome.read ls span orientation side) =
    record {
      refusal = 0;
      place = 0;
      lines = length ls;
      least = span.least;
      greatest = span.greatest;
      orientation = orientation;
      side = side;
    }
host_point (PointReadOutcome.refused r) =
    record { refusal = number_of r; place = place_of r; lines = 0; least = 0; greatest = 0; orientation = 0; side = 0 }

unfoldable pub host_point_lines_after : PointReadOutcome → List ℕ → List ℕ
host_point_lines_after (PointReadOutcome.read ls span orientation side) lines = placed (word_bytes ls) lines
host_point_lines_after (PointReadOutcome.refused r) lines = lines

-- And from the writer of points: a refusal or 0, and the count of bytes.
pub record HostPointWritten : Type 0 where
  pub refusal : ℕ
  pub bytes : ℕ

unfoldable pub host_point_written : PointWriteOutcome → HostPointWritten
host_point_written (PointWriteOutcome.written bs) = record { refusal = 0; bytes = length bs }
host_point_written (PointWriteOutcome.refused r) = record { refusal = number_of r; bytes = 0 }

-- A host's call that reads a point, and one that writes a point.
pub record HostPointReadCall (mb ref before : List ℕ) (a : HostPoint) (after : List ℕ) : Type 0 where
  pub answered : Answered (λ given o. given ≡ host_point o) host_point_lines_after (PointReads mb ref work_length (host_room (length before))) before after a

pub record HostPointWriteCall (mb : List ℕ) (p : GivenPoint) (before : List ℕ) (a : HostPointWritten) (after : List ℕ) : Type 0 where
  pub answered : Answered (λ given o. given ≡ host_point_written o) point_bytes_after (PointWrites mb p work_length (length before)) before after a
