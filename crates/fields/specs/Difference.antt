-- What an answer says of the difference from one stored coordinate to another.
use Rattle.std.specs.Prelude.{ℕ, ◌≡◌, Option, Some, None}
use Rattle.model.specs.Difference.{Near, difference}

abbrev pub DifferenceIs : ℕ → ℕ → Option ℕ → Type 0
DifferenceIs from to (Some d) = Near from to × (d ≡ difference from to)
DifferenceIs from to None = Near from to → ⊥
