-- What the calls answer: what was read or written, or why not.
use Rattle.std.specs.Prelude.{ℕ, Result}
use Rattle.model.specs.declared.Refusal.{Refusal}
use Rattle.model.specs.declared.Span.{Span}
use Rattle.model.specs.declared.ReadLines.{ReadLines}
use Rattle.model.specs.declared.ReadPoint.{ReadPoint}
use Rattle.model.specs.declared.WrittenBytes.{WrittenBytes}
use Rattle.model.specs.declared.Message.{Message}

-- The reader, and the reader of points along a line.
abbrev pub ReadAnswer : Type 0
ReadAnswer = Result ReadLines Refusal

abbrev pub PointReadAnswer : Type 0
PointReadAnswer = Result ReadPoint Refusal

-- The writer, and the writer of points along a line: the count of bytes.
abbrev pub WriteAnswer : Type 0
WriteAnswer = Result WrittenBytes Refusal

abbrev pub PointWriteAnswer : Type 0
PointWriteAnswer = Result ℕ Refusal

-- A call on a message: the message as it is now.
abbrev pub MessageAnswer : Type 0
MessageAnswer = Result Message Refusal

-- The values of the three structs, in the order of their fields.
abbrev pub lines_read : ℕ → Span → Span → ReadLines
lines_read count positive negative = record { count = count; positive = positive; negative = negative }

abbrev pub point_read : ℕ → Span → ℕ → ℕ → ReadPoint
point_read count offset orientation side = record { count = count; offset = offset; orientation = orientation; side = side }

abbrev pub bytes_written : ℕ → ℕ → ℕ → WrittenBytes
bytes_written bytes tests excess = record { bytes = bytes; tests = tests; excess = excess }
