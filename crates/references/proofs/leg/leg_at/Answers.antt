-- A leg, field by field.
use Rattle.std.proofs.Common.{◌/◌}
use Rattle.fields.specs.Leg.{leg_in}
use Rattle.references.specs.Legs.{leg_at}
use Rattle.model.specs.Reference.{point_at}
use Rattle.references.proofs.leg.leg_at.Goals as goal

pub returns : goal.returns
unfolding leg_in leg_at point_at
returns c =
    λ i.
    record {
      from = c.wide-from.ensures.0 i;
      to = c.wide-to.ensures.0 i;
      leaves = c.attributes_at-leaves.ensures i;
      lowest = c.byte_at-lowest.ensures.0 i / 32;
      distance = c.byte_at-distance.ensures.0 i;
      arrival = c.arrival_at-arrival.ensures i;
    }
