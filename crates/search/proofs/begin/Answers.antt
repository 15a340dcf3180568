-- The last search is reset, and the lines that ways may begin with are reached.
use Rattle.std.proofs.Common.{refl}
use Rattle.way_lengths.specs.Ways.{line}
use Rattle.relaxation.specs.Underway.{task}
use Rattle.search.proofs.Seeding.{seeding_none, begun_line, begun_node}
use Rattle.search.proofs.begin.Goals as goal

pub seed-requires : goal.seed-requires
seed-requires c =
    let p = c.requires in
    let r = c.reset.ensures p.0 p.1 p.2 in
    let at = c.in-Line.is in
    let l< = rw at at p.3 in
    record { j_lt_lines = l<; seeding = (task p.0 c.args.from, seeding_none p.1 p.4 r _, r.all _ l<) }

pub seed_node-requires : goal.seed_node-requires
seed_node-requires c =
    let p = c.requires in
    let r = c.reset.ensures p.0 p.1 p.2 in
    let at = c.in-Node.is in
    (p.0, seeding_none p.1 p.4 r _, rw at at p.3)

pub returns-in-Line : goal.returns-in-Line
returns-in-Line c =
    λ m h ch stands.
    let p = c.requires in
    let r = c.reset.ensures m h ch in
    let at = c.in-Line.is in
    begun_line at r (c.seed.ensures (task m (line _)) (seeding_none h p.4 r _) (r.all _ (rw at at stands)) refl)

pub returns-in-Node : goal.returns-in-Node
returns-in-Node c =
    λ m h ch stands.
    let p = c.requires in
    let r = c.reset.ensures m h ch in
    let at = c.in-Node.is in
    begun_node at r (c.seed_node.ensures m (seeding_none h p.4 r _) (rw at at stands))
