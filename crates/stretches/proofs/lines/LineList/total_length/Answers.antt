-- As many lines of the greatest length bound the sum.
use Rattle.std.proofs.Common.{◌≡◌, ◌∙◌, length, arith}
use lib.Seq.{take-length}
use Rattle.stretches.proofs.Stretches.{total_none, total_on}
use Rattle.stretches.proofs.Sums.{stretch_fits}
use Rattle.stretches.proofs.lines.LineList.total_length.Goals as goal

pub overflow_add-sum : goal.overflow_add-sum
overflow_add-sum c =
    let p = c.requires in
    let held = p.held.1 in
    omega (arith, stretch_fits held c.args.self.numbers.now c.args.self.known c.loop-i.i (omega arith) p.few, c.loop-i.invariant p.held.0 held)

pub loop-i-init : goal.loop-i-init
loop-i-init c m h = total_none m c.args.self.numbers.now

pub loop-i-preserved : goal.loop-i-preserved
loop-i-preserved c m h = omega (arith, total_on m c.args.self.numbers.now c.loop-i.i c.loop-i-test.true, c.loop-i.invariant m h, c.field_of.ensures m h)

pub returns : goal.returns
returns c m h =
    let e : c.loop-i.i ≡ length c.args.self.numbers.now = omega arith in
    c.loop-i.invariant m h ∙ rw (e, take-length)
