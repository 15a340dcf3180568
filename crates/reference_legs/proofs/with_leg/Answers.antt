-- The sums compute the definition.
use Rattle.std.proofs.Common.{◌≡◌, cond, eqb}
use borrow.Author.Tests.{eq-eqb, ne_eqb}
use Rattle.reference_legs.specs.Legs.{sums_with}
use Rattle.reference_legs.proofs.with_leg.Goals as goal
use Rattle.reference_legs.proofs.with_leg.Goals.{then-k-eq0, else-k-eq0}

pub returns : goal.returns
unfolding sums_with
returns c =
    let a = c.args in
    let first : c.if-k-eq0.first ≡ cond (eqb a.k 0) a.reading.length a.sums.first =
    elim c.if-k-eq0.branch [ then-k-eq0 w ↦ rw (eq-eqb _ _ w.if-k-eq0.true) w.first-is | else-k-eq0 w ↦ rw (ne_eqb _ _ w.if-k-eq0.false) w.first-is ] in
    rw first
