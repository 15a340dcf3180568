-- One line of the adjacency list after another.
use Rattle.std.proofs.Common.{arith}
use Rattle.way_lengths.specs.Ways.{node}
use Rattle.relaxation.specs.Underway.{task}
use Rattle.search_cells.proofs.Leaving.{list_less}
use Rattle.search.proofs.Seeding.{node_start, node_step, node_done}
use Rattle.search.proofs.seeds.seed_node.Goals as goal

pub loop-at-init : goal.loop-at-init
loop-at-init c = λ m s v<. node_start s (c.first_leaving-at.ensures m s.underway.held s.underway.chained v<)

pub seed-list-requires : goal.seed-list-requires
seed-list-requires c =
    let p = c.requires in
    let k = c.loop-at.invariant p.0 p.1 p.2 in
    let pos = c.loop-at-test.true in
    record { j_lt_lines = omega (arith, k.list.within); seeding = (task p.0 (node c.args.v), k.seeding, k.fresh _ (omega arith)) }

pub next_leaving-at-requires : goal.next_leaving-at-requires
next_leaving-at-requires c =
    let p = c.requires in
    let k = c.loop-at.invariant p.0 p.1 p.2 in
    let pos = c.loop-at-test.true in
    let g = (c.seed-list.ensures _ k.seeding (k.fresh _ (omega arith)) (k.list.joined pos)).seeding.underway in
    record { at_nonzero = (pos, k.list.within); mirrored = (p.0, g.held, g.chained) }

pub loop-at-smaller : goal.loop-at-smaller
loop-at-smaller c =
    let p = c.requires in
    let k = c.loop-at.invariant p.0 p.1 p.2 in
    let pos = c.loop-at-test.true in
    let g = (c.seed-list.ensures _ k.seeding (k.fresh _ (omega arith)) (k.list.joined pos)).seeding.underway in
    list_less k.list pos (c.next_leaving-at.ensures p.0 g.held g.chained)

pub loop-at-preserved : goal.loop-at-preserved
loop-at-preserved c =
    λ m s v<.
    let k = c.loop-at.invariant m s v< in
    let pos = c.loop-at-test.true in
    let t = c.seed-list.ensures _ k.seeding (k.fresh _ (omega arith)) (k.list.joined pos) in
    let g = t.seeding.underway in
    node_step k pos t (c.next_leaving-at.ensures m g.held g.chained)

pub returns : goal.returns
returns c = λ m s v<. node_done (c.loop-at.invariant m s v<) c.loop-at-test.false
