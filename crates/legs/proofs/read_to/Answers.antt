-- After a search back from the terminus, all first lines are judged.
use Rattle.work_area.specs.Mirror.{mirror}
use Rattle.search_cells.proofs.Holding.{mirrored, stands_mirrored}
use Rattle.legs.proofs.Searched.{searched, judged_by}
use Rattle.legs.proofs.read_to.Goals as goal

pub search-requires : goal.search-requires
search-requires c =
    let p = c.requires in
    (mirror p.0, mirrored p.1.held, p.1.chained, (stands_mirrored p.0 c.args.lines c.args.to p.3), c.longest_leg-limit.ensures.within)

pub from_lines-requires : goal.from_lines-requires
from_lines-requires c =
    let p = c.requires in
    let d = searched p.1 c.longest_leg-limit.ensures p.2 (c.search.ensures (mirror p.0) (mirrored p.1.held) p.1.chained (stands_mirrored p.0 c.args.lines c.args.to p.3)) in
    (p.0, _, d.ready, d.set.chained)

pub returns : goal.returns
returns c =
    λ m set terminus stands.
    let d = searched set c.longest_leg-limit.ensures terminus (c.search.ensures (mirror m) (mirrored set.held) set.chained (stands_mirrored m c.args.lines c.args.to stands)) in
    judged_by d (c.from_lines.ensures m _ d.ready d.set.chained)
