-- Already so, no leg before, or the turn into the leg.
use borrow.Author.Tests.{eq-eqb, ne_eqb}
use Rattle.model.specs.Lines.{banned}
use Rattle.work_area.proofs.Holding.{few}
use Rattle.reference_legs.specs.Legs.{barred_with}
use Rattle.reference_legs.proofs.barred_with.Goals as goal

pub returns-then-sums : goal.returns-then-sums
unfolding barred_with
returns-then-sums c = λ m h. rw c.if-sums.true

pub returns-then-k-eq0 : goal.returns-then-k-eq0
unfolding barred_with
returns-then-k-eq0 c = λ m h. rw (c.if-sums.false, eq-eqb _ _ c.if-k-eq0.true)

pub banned-requires : goal.banned-requires
banned-requires c =
    let p = c.requires in
    let h = p.held.1 in
    (p.first_lt_lines, few h, h.full, (p.held.0.bans, h.bans_held))

pub returns : goal.returns
unfolding barred_with banned
returns c = λ m h. rw (c.if-sums.false, ne_eqb _ _ c.if-k-eq0.false) (c.banned.ensures m.bans h.bans_held)
