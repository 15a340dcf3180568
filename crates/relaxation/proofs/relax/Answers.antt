-- In the order of the tests: nearer already, a banned turn, a tie, shut to the class, past the limit, reached.
use Rattle.std.proofs.Common.{⊎_elim, arith}
use Rattle.buffers.proofs.Cases.{le_or_lt}
use Rattle.search_cells.specs.Area.{far, length_to}
use Rattle.way_lengths.proofs.Follows.{follow}
use Rattle.search_cells.proofs.Holding.{few}
use Rattle.search_cells.proofs.Reached.{room_left}
use Rattle.relaxation.proofs.Relaxing.{length_at, going_in, key_behind, notable_low, marked_apart, unmarked, apart, not_more, nearer, tied, shut, beyond, reaches}
use Rattle.relaxation.proofs.Sums.{no_overflow}
use Rattle.relaxation.proofs.relax.Goals as goal

pub overflow_add-length : goal.overflow_add-length
overflow_add-length c =
    let p = c.requires.by_index in
    let j = c.requires.j_lt_lines in
    omega (arith, c.field.ensures, length_at p.2 p.3 j, no_overflow p.2 p.3 j)

pub returns-then-found-length : goal.returns-then-found-length
returns-then-found-length c =
    λ q place g o meets.
    let z = c.field.ensures in
    let e = c.length_to-found.ensures in
    let u = c.if-found-length.true in
    let j = c.requires.j_lt_lines in
    ⊎_elim (λ none. beyond g o j (omega arith) (let s = g.small in omega arith)) (λ some. nearer g o j (omega arith) (omega arith))
    (le_or_lt far (length_to c.args.work.now c.args.j))

pub returns-then-is_barred : goal.returns-then-is_barred
returns-then-is_barred c =
    λ q place g o meets.
    let j = c.requires.j_lt_lines in
    apart g o j (marked_apart g o j (rw c.if-is_barred.true at c.is_barred.ensures))

pub returns-then-found-lt-FAR : goal.returns-then-found-lt-FAR
returns-then-found-lt-FAR c =
    λ q place g o meets.
    let z = c.field.ensures in
    let e = c.length_to-found.ensures in
    let u = c.if-found-length.false in
    let i = c.if-found-lt-FAR.true in
    let j = c.requires.j_lt_lines in
    let free = unmarked g o j (rw c.if-is_barred.false at c.is_barred.ensures) in
    tied g o j (follow (let h = g.held.line_count in omega arith) meets free) (omega arith) (omega (arith, not_more g o j (omega arith)))
    c.record_tie.ensures

pub returns-then-class-field : goal.returns-then-class-field
returns-then-class-field c =
    λ q place g o meets.
    let e = c.length_to-found.ensures in
    let z = c.field-2.ensures in
    let u = c.if-found-lt-FAR.false in
    let t = c.if-class-field.true in
    shut g o c.requires.j_lt_lines (omega arith) (omega arith)

pub returns-then-limit-length : goal.returns-then-limit-length
returns-then-limit-length c =
    λ q place g o meets.
    let z = c.field.ensures in
    let e = c.length_to-found.ensures in
    let u = c.if-found-lt-FAR.false in
    let i = c.if-limit-length.true in
    beyond g o c.requires.j_lt_lines (omega arith) (omega arith)

pub reach-requires : goal.reach-requires
reach-requires c =
    let p = c.requires.by_index in
    let j = c.requires.j_lt_lines in
    let g = p.2 in
    let o = p.3 in
    let n≤ = few g.held in
    let l = going_in g o j in
    let z = c.field.ensures in
    let e = c.length_to-found.ensures in
    let u = c.if-found-lt-FAR.false in
    let i = c.if-limit-length.false in
    let small = g.small in
    let room = room_left g.listing j (omega arith) in
    record {
      j_lt_lines = (j, notable_low (omega arith) o.notable, omega arith, room, g.room);
      by_index = ((_, g.held), (_, o.inside, key_behind g o j (omega arith)));
    }

pub returns : goal.returns
returns c =
    λ q place g o meets.
    let j = c.requires.j_lt_lines in
    let z = c.field.ensures in
    let e = c.length_to-found.ensures in
    let u = c.if-found-lt-FAR.false in
    let ok = c.field-2.ensures in
    let d = c.if-class-field.false in
    let i = c.if-limit-length.false in
    let free = unmarked g o j (rw c.if-is_barred.false at c.is_barred.ensures) in
    let follows = follow (let h = g.held.line_count in omega arith) meets free in
    reaches g o j follows (omega arith) (omega arith) (omega arith) (omega arith)
    (c.reach.ensures _ g.held place o.inside (key_behind g o j (omega arith)))
