-- Offset bytes and spans as numbers.
use Rattle.std.specs.Prelude.{ℕ, ◌+◌, ◌≡◌, cond, leb}
use Rattle.model.specs.declared.Span.{Span}
use Rattle.model.specs.Field.{offset_byte}
use Rattle.model.specs.Reference.{byte}
use Rattle.model.specs.Span.{SpanRead, NoOffset}

unfoldable pub byte_number : ℕ → ℕ → ℕ
byte_number leg offset = cond (leb leg offset) 256 (offset_byte leg offset)

pub record SpanNumber (leg b n : ℕ) : Type 0 where
  pub between : (s : Span) → SpanRead leg (byte b) s → n ≡ s.least + s.greatest
  pub nowhere : NoOffset leg (byte b) → n ≡ 0
