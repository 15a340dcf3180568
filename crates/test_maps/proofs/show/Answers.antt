-- The counts of a whole map are those of its nodes and lines, which lie inside the work area.
use Rattle.std.proofs.Common.{◌≤◌, ℕ, List, length, arith}
use Rattle.work_area.specs.Area.{Holds}
use Rattle.model.specs.Map.{greatest_line_count, greatest_node_count, Map}
use Rattle.model.specs.Work.{work_length}
use Rattle.test_maps.proofs.show.Goals as goal

-- What a work area that holds a map says of its counts.
counts : {w : List ℕ} {nodes lines : ℕ} {m : Map} → Holds w nodes lines m → (work_length ≤ length w) × (nodes ≤ greatest_node_count) × (lines ≤ greatest_line_count)
counts h = (h.full, omega (arith, h.node_count, h.formed.few_nodes), omega (arith, h.line_count, h.formed.few_lines))

pub put_chains-n-requires : goal.put_chains-n-requires
put_chains-n-requires g c =
    let w = c.in-Ok.ensures.answers in
    omega (arith, counts w.held)

pub sum_of-of_nodes-requires : goal.sum_of-of_nodes-requires
sum_of-of_nodes-requires g c =
    let w = c.in-Ok.ensures.answers in
    omega (arith, counts w.held)

pub sum_of-of_lines-requires : goal.sum_of-of_lines-requires
sum_of-of_lines-requires g c =
    let w = c.in-Ok.ensures.answers in
    omega (arith, counts w.held, c.sum_of-of_nodes.ensures.1)
