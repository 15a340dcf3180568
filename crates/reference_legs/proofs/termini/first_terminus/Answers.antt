-- The first terminus is told by how the leg ends.
use Rattle.fields.specs.Leg.{arrival_in}
use Rattle.work_area.specs.Mirror.{mirror}
use Rattle.search_cells.proofs.Holding.{mirrored}
use Rattle.reference_legs.proofs.termini.first_terminus.Goals as goal

pub first_leaving-requires : goal.first_leaving-requires
first_leaving-requires c = let p = c.requires in (mirror p.0, mirrored p.1.held, p.1.chained, p.2)

pub returns-in-Some : goal.returns-in-Some
unfolding arrival_in
returns-in-Some c = λ m set to. rw c.in-Some.is (c.first_leaving.ensures (mirror m) (mirrored set.held) set.chained to)
