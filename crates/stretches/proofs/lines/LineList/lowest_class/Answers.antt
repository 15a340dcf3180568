-- One line more gives the greater of the class so far and its own.
use Rattle.std.proofs.Common.{◌≡◌, sym, ◌∙◌, max, length, arith}
use mathlib.Core.Path.{ap₂}
use lib.Seq.{take-length}
use Rattle.stretches.proofs.Ends.{lowest_none, lowest_on}
use Rattle.stretches.proofs.lines.LineList.lowest_class.Goals as goal

pub loop-i-init : goal.loop-i-init
loop-i-init c m h = lowest_none m c.args.self.numbers.now

pub loop-i-preserved : goal.loop-i-preserved
loop-i-preserved c m h =
    c.max-class.ensures ∙ ap₂ max (c.loop-i.invariant m h) (c.field_of.ensures m h) ∙ sym (lowest_on m c.args.self.numbers.now c.loop-i.i c.loop-i-test.true)

pub returns : goal.returns
returns c m h =
    let e : c.loop-i.i ≡ length c.args.self.numbers.now = omega arith in
    c.loop-i.invariant m h ∙ rw (e, take-length)
