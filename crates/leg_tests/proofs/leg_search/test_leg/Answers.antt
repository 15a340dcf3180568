-- By the verdict on the readings to the terminus.
use Rattle.std.proofs.Common.{sym, subst}
use lib.Seq.{slice}
use Rattle.way_lengths.specs.Ways.{Ends}
use Rattle.sole_ways.proofs.Slices.{last_of_slice}
use Rattle.leg_tests.specs.LegTests.{leg_from, Own, Other, EndsThere}
use Rattle.leg_tests.proofs.Termini.{serves_there}
use Rattle.leg_tests.proofs.Trials.{leg_lines}
use Rattle.leg_tests.proofs.leg_search.test_leg.Goals as goal

pub verdict_on-found-requires : goal.verdict_on-found-requires
verdict_on-found-requires c = let p = c.requires in (p.0, p.1, p.2, p.3, p.4, serves_there c.args.own p.5, p.7)

pub returns-then-own : goal.returns-then-own
returns-then-own c m to set t alone there short up =
    let a = c.args in
    let own : Own m a.stretch.lines a.stretch.numbers.now a.j to = subst (EndsThere m a.stretch.lines a.stretch.numbers.now a.j to) c.if-own.true there in
    c.is_sole.ensures m (leg_from m a.stretch.numbers.now a.i a.j) (slice a.i a.j a.stretch.numbers.now) to
    (rw (sym c.wide.ensures.0) at (leg_lines t own short)) (c.verdict_on-found.ensures m to set t alone own.serves up)

pub returns : goal.returns
returns c m to set t alone there short up =
    let a = c.args in
    let s = a.stretch.numbers.now in
    let o : Other m a.stretch.lines s a.j to = subst (EndsThere m a.stretch.lines s a.j to) c.if-own.false there in
    c.is_unread.ensures m (leg_from m s a.i a.j) (slice a.i a.j s) to
    (λ e. o.differs (subst (Ends m to) (last_of_slice s a.i a.j t.measured.ordered t.measured.inside) e))
    (c.verdict_on-found.ensures m to set t alone o.serves up)
