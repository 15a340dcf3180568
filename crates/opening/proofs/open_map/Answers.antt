-- `open_map` meets its contract: the map that is read, linked; or its refusal.
use Rattle.work_area.specs.Mirror.{mirror}
use Rattle.work_area.proofs.Holding.{held}
use Rattle.search_cells.proofs.Holding.{mirrored}
use Rattle.opening.proofs.Told.{opened}
use Rattle.opening.proofs.open_map.Goals as goal

pub link-requires : goal.link-requires
link-requires c = let w = c.in_ok-count.ensures.answers in (mirror w.map, mirrored (held w.held))

pub returns : goal.returns
returns c = let m = c.in_ok-count.ensures in opened m.answers m.kept c.link.ensures
