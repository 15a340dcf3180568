-- What an answer of `number_at` says of the bytes that it read from.
use Rattle.std.specs.Prelude.{ℕ, List, drop, Option, Some, None}
use Rattle.buffers.specs.declared.number.Number.{Number}
use Rattle.model.specs.Number as Defined

-- A position stands for the bytes from there on.
abbrev pub taken : List ℕ → Option Number → Defined.Number
taken bytes (Some n) = Defined.got n.value (drop n.next bytes)
taken bytes None = Defined.faulty
