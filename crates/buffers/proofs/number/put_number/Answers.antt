-- A group more, and the last one.
use Rattle.std.proofs.Common.{arith}
use Rattle.buffers.proofs.Numbers.{putting_start, put_last, put_more, put_all}
use Rattle.buffers.proofs.number.put_number.Goals as goal

pub loop-i-init : goal.loop-i-init
loop-i-init c = rw c.from-rest.ensures (putting_start _ _ c.requires)

pub returns-then-rest-lt-GROUP : goal.returns-then-rest-lt-GROUP
returns-then-rest-lt-GROUP c =
    let e = put_last c.loop-i.invariant c.loop-i-test.true c.if-rest-lt-GROUP.true in
    (e.0, omega arith, e.1)

pub loop-i-preserved : goal.loop-i-preserved
loop-i-preserved c = put_more c.loop-i.invariant c.loop-i-test.true c.if-rest-lt-GROUP.false

pub returns : goal.returns
returns c = let e = put_all c.loop-i.invariant c.loop-i-test.false in (e.0, omega arith, e.1)
