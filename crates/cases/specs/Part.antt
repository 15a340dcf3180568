-- A part of a file of cases: two bytes of length, low byte first, and as many bytes.
use Rattle.std.specs.Prelude.{ℕ, ◌+◌, ◌*◌, ◌≤◌, ◌<◌, ◌≡◌, cond, List, length, get_or, ltb, Option, Some, None}
use Rattle.cases.specs.declared.Part.{Part}

unfoldable pub size_at : List ℕ → ℕ → ℕ
size_at bytes at = get_or bytes at 0 + get_or bytes (at + 1) 0 * 256

-- The part at byte `at`; there is none where the bytes end before it does.
abbrev pub PartIs : List ℕ → ℕ → Option Part → Type 0
PartIs bytes at (Some p) = (p.start ≡ at + 2) × (p.end ≡ p.start + size_at bytes at) × (p.end ≤ length bytes)
PartIs bytes at None = length bytes < at + 2 + size_at bytes at

-- A number of four bytes, low byte first.
unfoldable pub word_at : List ℕ → ℕ → ℕ
word_at bytes at =
    cond (ltb (length bytes) (at + 4)) 0
    (get_or bytes at 0 + get_or bytes (at + 1) 0 * 256 + get_or bytes (at + 2) 0 * 65_536 + get_or bytes (at + 3) 0 * 16_777_216)
