-- By the first line where it is alone, and else by all.
use Rattle.std.proofs.Common.{ℕ, subst}
use Rattle.model.specs.Reading.{Leg}
use Rattle.legs.proofs.Joining.{says_then}
use Rattle.legs.specs.Verdict.{Says, StandsIn, ReadingTo, ReadingFrom}
use Rattle.leg_tests.specs.LegTests.{leg_from}
use Rattle.leg_tests.proofs.Trials.{ready, says_alone}
use Rattle.leg_tests.proofs.leg_search.verdict_on.Goals as goal

pub from_line-requires-clause-ready : goal.from_line-requires-clause-ready
from_line-requires-clause-ready c =
    let p = c.requires in
    (p.0, p.1, ready p.3 p.2 p.5 p.6 c.leg_of-leg.result (c.leg_of-leg.ensures p.0 p.2.held p.3.measured))

pub returns-then-alone : goal.returns-then-alone
returns-then-alone c m to set t alone serves up =
    let a = c.args in
    let leg = c.leg_of-leg.result in
    let e = c.leg_of-leg.ensures m set.held t.measured in
    let says = c.from_line.ensures m to (ready t set serves up leg e) in
    says_alone t set.held.line_count (rw c.if-alone.true at alone)
    (subst (λ (f : ℕ). Says m (ReadingFrom m (leg_from m a.stretch.numbers.now a.i a.j) f to) (StandsIn a.work.now) c.from_line.result) c.wide.ensures.0
    (subst (λ (l : Leg). Says m (ReadingFrom m l c.wide.result to) (StandsIn a.work.now) c.from_line.result) e says))

pub from_lines-requires : goal.from_lines-requires
from_lines-requires c =
    let p = c.requires in
    (p.0, p.1, ready p.3 p.2 p.5 p.6 c.leg_of-leg.result (c.leg_of-leg.ensures p.0 p.2.held p.3.measured), p.2.chained)

pub returns : goal.returns
returns c m to set t alone serves up =
    let a = c.args in
    let e = c.leg_of-leg.ensures m set.held t.measured in
    let says = c.from_lines.ensures m to (ready t set serves up c.leg_of-leg.result e) set.chained in
    says_then (λ q ls is o n. tt) (subst (λ (l : Leg). Says m (ReadingTo m l to) (StandsIn a.work.now) c.from_lines.result) e says)
