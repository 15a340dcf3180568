-- Each turn writes one line more, and goes on to the one behind it.
use Rattle.std.proofs.Common.{◌≡◌, ◌+◌, ◌-◌, refl, length, arith}
use Rattle.ways.proofs.Written.{numbers, numbers_first, write_step}
use Rattle.ways.proofs.write_lines.Goals as goal

pub loop-number-init : goal.loop-number-init
loop-number-init c =
    let p = c.requires in
    let n = length c.args.out.now in
    let z : n - 0 ≡ n = omega arith in
    record { numbers = rw z (numbers p.2 p.3); written = rw z refl }

pub loop-number-preserved : goal.loop-number-preserved
loop-number-preserved c =
    let k = c.loop-number.invariant in
    let i = c.loop-number.number-index in
    let w = c.args.work.now in
    let n = length c.args.out.now in
    let at = c.loop-number.at in
    let z : n - i - 1 ≡ n - (i + 1) = omega arith in
    record {
      numbers = rw c.line_behind-at.ensures (rw z at (numbers_first w at (n - i) (omega arith) k.numbers).0);
      written = rw c.line_behind-at.ensures (write_step w _ c.loop-number.out at i n (omega arith) (omega arith) k.written);
    }
