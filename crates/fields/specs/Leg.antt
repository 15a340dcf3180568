-- The greatest length of a leg whose byte D is at most some number.
use Rattle.std.specs.Prelude.{ℕ, ◌≤◌, Option, Some, None}
use Rattle.model.specs.Field.{distance}
use Rattle.model.specs.Reading.{greatest_leg_length}
use Rattle.model.specs.Lines.{LineAttributes}
use Rattle.fields.specs.declared.leg.Attributes.{Attributes}
use Rattle.fields.specs.declared.leg.Leg.{Leg}
use Rattle.model.specs.Reading as definitions

-- The lengths up to `r` are those of a leg whose byte D is at most `d`.
pub record LongestLeg (d r : ℕ) : Type 0 where
  pub within : r ≤ greatest_leg_length
  pub gives : (length : ℕ) → length ≤ r → distance length ≤ d
  pub holds : (length : ℕ) → length ≤ greatest_leg_length → distance length ≤ d → length ≤ r

-- The attributes, the arrival and the leg of the definitions.
unfoldable pub attributes_in : Attributes → LineAttributes
attributes_in a = record { frc = a.frc; fow = a.fow; sector = a.sector }

unfoldable pub arrival_in : Option Attributes → definitions.Arrival
arrival_in None = definitions.any
arrival_in (Some a) = definitions.matching (attributes_in a)

unfoldable pub leg_in : Leg → definitions.Leg
leg_in leg =
    record {
      from = leg.from;
      to = leg.to;
      leaves = attributes_in leg.leaves;
      lowest = leg.lowest;
      distance = leg.distance;
      arrival = arrival_in leg.arrival;
    }
