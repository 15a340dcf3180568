-- The offsets that an offset byte may stand for (paper 01, "Refused, by place", last paragraph; refusal 19).
use Rattle.std.specs.Prelude.{ℕ, ◌≤◌, ◌<◌, ◌≡◌}
use Rattle.model.specs.declared.Span.{Span}
use Rattle.model.specs.Field.{offset_byte}
use Rattle.model.specs.Reference.{Offset, absent, byte}

-- "Of the whole offsets from 1 to below the leg length": `o` is one, and it gives the byte.
pub record Gives (leg byte o : ℕ) : Type 0 where
  pub above : 0 < o
  pub inside : o < leg
  pub same : offset_byte leg o ≡ byte

-- Span, the paper's word: "the least and the greatest that give its byte", "0 and 0 if unflagged".
pub data SpanRead (leg : ℕ) : Offset → Span → Type 0 where
  unflagged : SpanRead leg absent (record { least = 0; greatest = 0 })
  flagged : {b lo hi : ℕ} → Gives leg b lo → Gives leg b hi → ((o : ℕ) → Gives leg b o → (lo ≤ o) × (o ≤ hi)) →
      SpanRead leg (byte b) (record { least = lo; greatest = hi })

-- Refusal 19, first half: "no whole offset from 1 to below the leg length gives a flagged byte".
pub data NoOffset (leg : ℕ) : Offset → Type 0 where
  no_offset : {b : ℕ} → ((o : ℕ) → Gives leg b o → ⊥) → NoOffset leg (byte b)
