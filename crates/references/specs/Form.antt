-- What sound bytes of a reference are, and which offset of the definitions an offset of the code is.
use Rattle.std.specs.Prelude.{ℕ, ◌+◌, ◌*◌, ◌≤◌, ◌≡◌, List, length, get_or, Option, Some, None}
use Rattle.model.specs.Reference as definitions

-- The bytes are a reference of so many points but the last. Their length says how far they can be read.
pub record SoundBytes (bytes : List ℕ) (points : ℕ) : Type 0 where
  pub parses : definitions.parse bytes ≡ definitions.parsed (definitions.reference_at bytes points)
  pub some : 1 ≤ points
  pub few : points ≤ 64
  pub sized : length bytes ≡ 9 + 7 * points + definitions.flags (get_or bytes (8 + 7 * points) 0)

-- The offset of the definitions.
abbrev pub offset_in : Option ℕ → definitions.Offset
offset_in None = definitions.absent
offset_in (Some b) = definitions.byte b
