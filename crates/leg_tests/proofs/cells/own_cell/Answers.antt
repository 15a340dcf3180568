-- Where its first line is alone, the leg has no other reading there.
use Rattle.std.proofs.Common.{subst}
use Rattle.buffers.specs.Decides.{Decides}
use Rattle.sole_ways.proofs.Working.{worked_none}
use Rattle.leg_tests.specs.LegTests.{Alone}
use Rattle.leg_tests.proofs.SoleLegs.{alone_read}
use Rattle.leg_tests.proofs.Opening.{stays_so}
use Rattle.leg_tests.proofs.cells.own_cell.Goals as goal

pub returns-then-alone : goal.returns-then-alone
returns-then-alone c e m set t sole alone own done =
    let a = c.args in
    let fit = rw c.if-not-leg_fits.false at (c.leg_fits.ensures m set.held) in
    let lone = subst (Decides (Alone m a.stretch.lines a.stretch.numbers.now a.i)) c.if-alone.true alone in
    record { sifted = stays_so (alone_read t own sole set.held.line_count lone fit); done = done; worked = worked_none set }
