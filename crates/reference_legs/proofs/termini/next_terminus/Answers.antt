-- The next terminus is told by how the leg ends.
use Rattle.fields.specs.Leg.{arrival_in}
use Rattle.work_area.specs.Mirror.{mirror}
use Rattle.search_cells.proofs.Holding.{mirrored}
use Rattle.reference_legs.proofs.termini.next_terminus.Goals as goal

pub next_leaving-requires-clause-mirrored : goal.next_leaving-requires-clause-mirrored
next_leaving-requires-clause-mirrored c = let p = c.requires.set in (mirror p.0, mirrored p.1.held, p.1.chained)

pub returns-in-Some : goal.returns-in-Some
unfolding arrival_in
returns-in-Some c = λ m set. rw c.in-Some.is (c.next_leaving.ensures (mirror m) (mirrored set.held) set.chained)
