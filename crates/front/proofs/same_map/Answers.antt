-- The count is compared, and then the sum.
use Rattle.std.proofs.Common.{sym, ◌∙◌, length}
use borrow.Author.Tests.{eq-eqb, ne_eqb}
use Rattle.front.proofs.Fronts.{unread, tested}
use Rattle.front.proofs.same_map.Goals as goal

pub returns-in_default : goal.returns-in_default
returns-in_default c = sym (unread _ _ c.in_default.ensures)

pub returns-then-front-map : goal.returns-then-front-map
returns-then-front-map c =
    let f = c.in-Some.front in
    sym (tested _ _ _ _ _ c.in-Some.ensures.0 ∙ rw (eq-eqb f.count (length c.args.map.now) c.if-front-map.true, sym c.map_sum.ensures))

pub returns-else-front-map : goal.returns-else-front-map
returns-else-front-map c =
    let f = c.in-Some.front in
    sym (tested _ _ _ _ _ c.in-Some.ensures.0 ∙ rw (ne_eqb f.count (length c.args.map.now) c.if-front-map.false))
