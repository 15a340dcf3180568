-- The search that was done serves, or one is done now.
use Rattle.search_cells.proofs.Holding.{mirrored}
use Rattle.work_area.specs.Mirror.{mirror}
use Rattle.leg_tests.proofs.Trials.{not_again, anew}
use Rattle.leg_tests.proofs.leg_search.prepare.Goals as goal

pub returns-then-longest_leg-done : goal.returns-then-longest_leg-done
returns-then-longest_leg-done c m set stands before =
    let done = rw c.in-Some.is at before in
    not_again set (rw c.distance.ensures at c.longest_leg.ensures) c.if-longest_leg-done.true (rw c.if-done-class.true at done)

pub search-requires : goal.search-requires
search-requires c =
    let p = c.requires.set in
    (mirror p.0, mirrored p.1.held, p.1.chained, p.2, c.limit_for-limit.ensures.within)

pub returns : goal.returns
returns c m set stands before = anew set c.limit_for-limit.ensures (c.search.ensures (mirror m) (mirrored set.held) set.chained stands)
