-- What the answer of a test says.
use Rattle.std.specs.Prelude.{Bool, true, false}

-- The answer of a test.
abbrev pub Decides : Type 0 → Bool → Type 0
Decides P true = P
Decides P false = P → ⊥
