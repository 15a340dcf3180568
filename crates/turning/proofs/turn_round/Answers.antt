-- The lines, then the banned turns, then the adjacency lists.
use Rattle.std.proofs.Common.{arith}
use Rattle.work_area.specs.Mirror.{mirror_turns, mirror}
use Rattle.work_area.proofs.Holding.{few}
use Rattle.search_cells.proofs.Holding.{mirrored}
use Rattle.turning.proofs.Round.{bans_known, swapped_bans, round_held, round_set}
use Rattle.turning.proofs.turn_round.Goals as goal

pub turn_bans-requires : goal.turn_bans-requires
turn_bans-requires c =
    let p = c.requires in
    let h = p.1.held in
    let s = c.swap_ends.ensures in
    (omega (arith, h.full, s.kept.same), few h, (mirror_turns p.0.bans, swapped_bans h s, bans_known h))

pub link-requires : goal.link-requires
link-requires c =
    let p = c.requires in
    let h = p.1.held in
    let s = c.swap_ends.ensures in
    let t = c.turn_bans.ensures (mirror_turns p.0.bans) (swapped_bans h s) (bans_known h) in
    (mirror (mirror p.0), mirrored (round_held h s t))

pub returns : goal.returns
returns c =
    λ m set.
    let h = set.held in
    let s = c.swap_ends.ensures in
    let t = c.turn_bans.ensures (mirror_turns m.bans) (swapped_bans h s) (bans_known h) in
    round_set h s t (c.link.ensures (mirror (mirror m)) (mirrored (round_held h s t)))
