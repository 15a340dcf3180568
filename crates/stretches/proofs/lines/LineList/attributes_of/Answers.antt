-- Each number is that of the line.
use Rattle.fields.specs.Leg.{attributes_in}
use Rattle.stretches.specs.Attributes.{attributes_by}
use Rattle.stretches.proofs.lines.LineList.attributes_of.Goals as goal

pub returns : goal.returns
unfolding attributes_in attributes_by
returns c m h =
    let frc = c.field_of-frc.ensures m h in
    let fow = c.field_of-fow.ensures m h in
    let sectored = c.field_of-sector.ensures m h in
    λ t. record { frc = frc t; fow = fow t; sector = sectored t }
