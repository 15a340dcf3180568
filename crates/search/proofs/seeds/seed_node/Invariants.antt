-- Along the adjacency list of the node.
use Rattle.std.proofs.Common.{◌<◌, length}
use Rattle.model.specs.Map.{Map}
use Rattle.way_lengths.specs.Ways.{node}
use Rattle.relaxation.specs.Underway.{task}
use Rattle.search.specs.Seeds.{Seeding}
use Rattle.search.proofs.Seeding.{SeedingNode}
use Rattle.search.proofs.seeds.seed_node.Given as goal

abbrev pub invariant-loop-at : goal.invariant-loop-at
invariant-loop-at l =
    (m : Map) → Seeding (task m (node l.v)) l.lines l.class l.limit 0 0 l.initial.work → l.v < length m.nodes →
    SeedingNode m l.lines l.class l.v l.limit l.at l.initial.work l.work l.list.count l.list.end

abbrev pub decreases-loop-at : goal.decreases-loop-at
decreases-loop-at l = l.at
