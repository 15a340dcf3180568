-- Under a greater class a sole way is one, and where it is none its own class is searched.
use Rattle.std.proofs.Common.{arith}
use Rattle.sole_ways.proofs.Testing.{tested_sole, tested_own}
use Rattle.sole_ways.proofs.Working.{worked_then}
use Rattle.sole_ways.proofs.test.test_sole.Goals as goal

pub returns-then-test : goal.returns-then-test
returns-then-test c m set t arriving start f =
    let r = c.serve-along.ensures m set t start f in
    tested_sole t r.serves (c.look-test.ensures m r.worked.set t arriving r.follows r.serves r.start) r.worked c.if-test.true

pub returns-then-along-part : goal.returns-then-along-part
returns-then-along-part c m set t arriving start f =
    let r = c.serve-along.ensures m set t start f in
    tested_own t r.serves (c.look-test.ensures m r.worked.set t arriving r.follows r.serves r.start) r.worked c.if-along-part.true

pub returns : goal.returns
returns c m set t arriving start f =
    let r = c.serve-along.ensures m set t start f in
    let o = c.search_ahead-own.ensures m r.worked.set t in
    tested_own t o.serves (c.look.ensures m o.worked.set t arriving o.follows o.serves o.start) (worked_then r.worked o.worked)
    (omega (arith, o.few, o.serves.classes))

pub look-requires-clause-set : goal.look-requires-clause-set
look-requires-clause-set c =
    let (m, set, t, arriving, start, f) = c.requires.set in
    let r = c.serve-along.ensures m set t start f in
    let o = c.search_ahead-own.ensures m r.worked.set t in
    (m, o.worked.set, t, arriving, o.follows, o.serves, o.start)
