-- `sector` meets its contract: it is told by its quadrant and the parts of two squarings.
use Rattle.model.specs.Sector.{direction, sector}
use Rattle.model.proofs.Sectors.{steps_lead}
use Rattle.fields.proofs.Sectors.{square_small, sector_told}
use native.Mathlib.Omega.{arith}
use Rattle.fields.proofs.sector.sector.Goals as goal

pub square-twice-requires : goal.square-twice-requires
square-twice-requires c = square_small (omega (arith, c.abs_diff-real.ensures)) (omega (arith, c.abs_diff-imaginary.ensures)) c.square-once.ensures

pub returns : goal.returns
unfolding sector direction
returns c =
    sector_told (direction c.args.east c.args.north) (steps_lead c.args.east c.args.north c.requires.2) c.abs_diff-real.ensures c.abs_diff-imaginary.ensures
    c.quadrant_of-quadrant.ensures c.later_half-half.ensures c.square-once.ensures c.later_half-quarter.ensures c.square-twice.ensures c.later_half.ensures
