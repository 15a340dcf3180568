-- A step is the only one, or the way ends.
use Rattle.std.proofs.Common.{◌≡◌, refl, arith}
use Rattle.sole_ways.proofs.Going.{going_start, going_on, going_off, going_end}
use Rattle.sole_ways.proofs.along.advance.Goals as goal

pub loop-at-init : goal.loop-at-init
loop-at-init c m b set joint f e limit class = going_start f e

pub steps_on-requires-clause-bounds : goal.steps_on-requires-clause-bounds
steps_on-requires-clause-bounds c =
    let l = c.loop-at in
    let q = c.requires.set in
    let g = l.invariant q.0 c.args.before q.1 q.2 q.3 refl q.4 q.5 in
    let small = q.3.searched.small in
    (omega (arith, g.after), omega arith, omega (arith, g.near))

pub returns-then-not-steps_on : goal.returns-then-not-steps_on
returns-then-not-steps_on c m set joint f limit class =
    let p = c.requires.to_le_to in
    going_off f c.args.stretch.known joint p.1 c.loop-at-test.true limit class (c.loop-at.invariant m _ set joint f refl limit class)
    (rw c.if-not-steps_on.true at (c.steps_on.ensures m set))

pub loop-at-preserved : goal.loop-at-preserved
loop-at-preserved c m b set joint f e limit class =
    let p = c.requires.to_le_to in
    going_on f c.args.stretch.known joint p.1 c.loop-at-test.true limit class (c.loop-at.invariant m b set joint f e limit class)
    (rw c.if-not-steps_on.false at (c.steps_on.ensures m set))

pub returns : goal.returns
returns c m set joint f limit class =
    let e : c.loop-at.at ≡ c.args.to = omega arith in
    rw e at (going_end f (omega arith) (omega arith) (c.loop-at.invariant m _ set joint f refl limit class))
