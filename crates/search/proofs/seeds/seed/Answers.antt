-- The line is past its class, past the limit, or its own length is the length to it.
use Rattle.std.proofs.Common.{◌≡◌, ℕ, arith}
use Rattle.search_cells.proofs.Holding.{held_kept, few}
use Rattle.search_cells.proofs.Reached.{room_left}
use Rattle.search.proofs.Seeding.{seeded_off, seeded_on}
use Rattle.search.proofs.seeds.seed.Goals as goal

pub put-requires : goal.put-requires
put-requires c =
    let j = c.requires.j_lt_lines in
    let p = c.requires.seeding in
    let g = p.1.underway in
    let t = c.if-limit-length.false in
    (omega (arith, j, few g.held), omega arith, omega (arith, g.small), g.held.full, omega (arith, room_left g.listing j p.2, few g.held))

pub returns-then-not-sends : goal.returns-then-not-sends
returns-then-not-sends c =
    λ q s fresh b.
    let put = c.put.ensures in
    let ok = c.field.ensures in
    let t = c.if-class-field.false in
    let u = c.if-limit-length.false in
    seeded_off s c.requires.j_lt_lines fresh (omega arith) c.field-length.ensures (omega arith) put
    (c.sends.ensures _ (held_kept (omega arith) put.kept s.underway.held)) b
    (λ e. let r = c.if-not-sends.true in let z : ◌≡◌ {A = ℕ} 0 1 = cc in omega arith)

pub insert_seed-requires : goal.insert_seed-requires
insert_seed-requires c =
    let p = c.requires.seeding in
    let g = p.1.underway in
    let put = c.put.ensures in
    let sent = c.sends.ensures _ (held_kept (omega arith) put.kept g.held) in
    (omega (arith, g.room, room_left g.listing c.requires.j_lt_lines p.2, few g.held), omega (arith, g.held.full, put.kept.same, sent.kept.same))

pub returns : goal.returns
returns c =
    λ q s fresh b.
    let put = c.put.ensures in
    let ok = c.field.ensures in
    let t = c.if-class-field.false in
    let u = c.if-limit-length.false in
    let sent = c.sends.ensures _ (held_kept (omega arith) put.kept s.underway.held) in
    seeded_on s c.requires.j_lt_lines fresh (omega arith) c.field-length.ensures (omega arith) put sent b
    (rw c.key_of.ensures at c.insert_seed.ensures)
