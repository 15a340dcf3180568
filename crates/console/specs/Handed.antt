-- How many bytes the system is known to have taken.
use Rattle.std.specs.Prelude.{ℕ, ◌≡◌, List, ◌⊎◌, length}

-- All of them, or 0 where it failed on the way.
abbrev pub Handed : List ℕ → ℕ → Type 0
Handed bytes taken = (taken ≡ length bytes) ⊎ (taken ≡ 0)
