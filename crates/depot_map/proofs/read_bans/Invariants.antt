-- After `i` turns the first `i` banned turns are read.
use mathlib.Core.List.{[]}
use lib.ListN.{drop}
use Rattle.model.specs.Map.{decode_bans}
use Rattle.work_area.specs.Held.{held_nodes, held_lines}
use Rattle.depot_map.proofs.BanStages.{BansRead}
use Rattle.depot_map.proofs.read_bans.Given as goal

abbrev pub invariant-loop-i : goal.invariant-loop-i
invariant-loop-i l =
    BansRead (decode_bans l.fn.count (drop l.fn.from l.fn.map) (held_nodes l.initial.work l.fn.counts.nodes) (held_lines l.initial.work l.fn.counts.lines) []) l.fn.map l.at
    l.fn.counts.nodes l.fn.counts.lines l.fn.count l._i l.taken l.initial.work l.work
