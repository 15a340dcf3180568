-- What is said of a list of lines: each is one of the map's.
use Rattle.std.specs.Prelude.{ℕ, ◌<◌, List, length, get_or}

-- Each of these is one of so many lines.
abbrev pub Known : ℕ → List ℕ → Type 0
Known lines ls = (i : ℕ) → i < length ls → get_or ls i 0 < lines
