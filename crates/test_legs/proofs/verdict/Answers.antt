-- One terminus after another.
use Rattle.std.proofs.Common.{arith}
use Rattle.fields.specs.Leg.{arrival_in, leg_in}
use Rattle.reference_legs.proofs.OneMore.{next_less, walk_start, walk_on, walk_end}
use Rattle.test_legs.proofs.verdict.Goals as goal

pub loop-at-init : goal.loop-at-init
loop-at-init c = λ m set to. walk_start _ set (c.first_terminus-at.ensures m set to)

pub loop-at-smaller : goal.loop-at-smaller
loop-at-smaller c =
    let p = c.requires in
    let leg = c.args.leg in
    let some = c.loop-at-test.true in
    let k = c.loop-at.invariant p.0 p.1 p.2 in
    let j = c.read_terminus-more.ensures p.0 k.judged.set p.2 (k.stands some) in
    omega (arith, c.next_terminus-at.ensures p.0 j.set, next_less p.0 (leg_in leg) j.set.held.line_count (arrival_in leg.arrival) c.loop-at.at some)

pub loop-at-preserved : goal.loop-at-preserved
loop-at-preserved c =
    λ m set to.
    let k = c.loop-at.invariant m set to in
    let some = c.loop-at-test.true in
    let j = c.read_terminus-more.ensures m k.judged.set to (k.stands some) in
    rw c.both-found.ensures (walk_on (λ r ls e n. tt) (λ r ls e q o n. tt) k some j (c.next_terminus-at.ensures m j.set))

pub returns : goal.returns
returns c m set to = walk_end (c.loop-at.invariant m set to) (omega (arith, c.loop-at-test.false))
