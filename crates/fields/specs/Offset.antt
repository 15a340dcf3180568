-- What is said of the offsets on a leg that give a byte.
use Rattle.std.specs.Prelude.{ℕ, ◌≤◌, ◌<◌, Option, Some, None}
use Rattle.model.specs.Field.{offset_byte}
use Rattle.model.specs.Reference.{byte}
use Rattle.model.specs.Span.{SpanRead, NoOffset}
use Rattle.model.specs.declared.Span.{Span}

-- Of the offsets from 1 to below the leg's length, those below `r` give a lesser byte than `b`, and the others `b` or a greater one.
pub record FirstOffset (leg b r : ℕ) : Type 0 where
  pub above : 0 < leg → 0 < r
  pub before : (o : ℕ) → 0 < o → o < r → offset_byte leg o < b
  pub from : (o : ℕ) → r ≤ o → o < leg → b ≤ offset_byte leg o

-- An answer: the span of the offsets that give byte `b`, or that no offset gives it.
abbrev pub OffsetsOf : ℕ → ℕ → Option Span → Type 0
OffsetsOf leg b (Some s) = SpanRead leg (byte b) s
OffsetsOf leg b None = NoOffset leg (byte b)
