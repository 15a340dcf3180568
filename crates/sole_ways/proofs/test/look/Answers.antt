-- The stretch's lines are gone along, and the leg is asked for.
use Rattle.std.proofs.Common.{arith}
use Rattle.sole_ways.proofs.Testing.{looked}
use Rattle.sole_ways.proofs.test.look.Goals as goal

pub returns : goal.returns
returns c m set t arriving f served start =
    let adv = c.advance-to.ensures m set t.connected f (omega (arith, t.measured.sum, served.limit)) (omega (arith, t.measured.classes, served.classes)) in
    looked c.is_sole-sole.result t f adv (c.is_sole-sole.ensures m _ set t arriving f served adv)

pub is_sole-sole-requires-clause-set : goal.is_sole-sole-requires-clause-set
is_sole-sole-requires-clause-set c =
    let (m, set, t, arriving, f, served, _) = c.requires.set in
    let adv = c.advance-to.ensures m set t.connected f (omega (arith, t.measured.sum, served.limit)) (omega (arith, t.measured.classes, served.classes)) in
    (m, c.args.along, set, t, arriving, f, served, adv)
