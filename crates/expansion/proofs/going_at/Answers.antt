-- The line of the key, and what is noted for it.
use Rattle.std.proofs.Common.{sym, ap, ◌∙◌, arith}
use Rattle.search_cells.specs.Area.{length_to}
use Rattle.expansion.proofs.AtPlace.{goes_on, place_few}
use Rattle.expansion.proofs.going_at.Goals as goal

pub overflow_add-place : goal.overflow_add-place
overflow_add-place c = let k = place_few c.requires.5 c.requires.6 in omega arith

pub offset_bounds-work-place : goal.offset_bounds-work-place
offset_bounds-work-place c = let k = place_few c.requires.5 c.requires.6 in omega arith

pub bounds-work-place : goal.bounds-work-place
bounds-work-place c =
    let k = place_few c.requires.5 c.requires.6 in
    let full = c.requires.5.held.full in
    omega arith

pub returns : goal.returns
returns c =
    λ q class limit count end g inside.
    let e = c.line_of-line.ensures in
    let k = g.queue _ (omega arith) inside in
    let at = sym e in
    goes_on g inside at (sym k.found ∙ ap (length_to c.args.work.now) at ∙ sym c.length_to-length.ensures)
    (c.bans_from-chain.ensures _ g.held.bans_held) (c.note_for-note.ensures _ g.held)
