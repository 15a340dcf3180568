-- `arrival_to` meets its contract: only the leg to the end is the last.
use mathlib.Core.Path.{ap}
use borrow.Author.Tests.{eq-eqb, ne_eqb}
use lib.ListN.{length}
use Rattle.model.specs.Lines.{arriving}
use Rattle.model.specs.Reading.{matching}
use Rattle.fields.specs.Leg.{arrival_in}
use Rattle.stretches.specs.Attributes.{attributes_by}
use native.Mathlib.Omega.{arith}
use Rattle.leg_tests.proofs.leg.arrival_to.Goals as goal

pub returns-then-j-stretch : goal.returns-then-j-stretch
unfolding arrival_in
returns-then-j-stretch c m h = rw (ne_eqb c.args.j (length c.args.stretch.numbers.now) (λ e. omega (arith, c.if-j-stretch.true)))

pub returns : goal.returns
unfolding arrival_in attributes_by arriving
returns c m h =
    rw (eq-eqb c.args.j (length c.args.stretch.numbers.now) (omega (arith, c.if-j-stretch.false, c.requires.bounds.1)))
    (ap matching (c.attributes_of.ensures m h))
