-- A byte more, and all of them.
use Rattle.std.proofs.Common.{sym, ◌∙◌, ap}
use Rattle.buffers.proofs.Lent.{tail_lent}
use Rattle.model.specs.Front.{summed}
use Rattle.model.proofs.Sums.{sum_low}
use Rattle.map_sum.proofs.Sums.{sum_more, sum_all}
use Rattle.map_sum.proofs.rest_sum.Goals as goal

pub loop-byte-init : goal.loop-byte-init
loop-byte-init c = record { low = c.requires.1; to_come = ap (summed c.args.start) (tail_lent c.args.from c.args.map.now) }

pub loop-byte-preserved : goal.loop-byte-preserved
loop-byte-preserved c =
    let l = c.loop-byte in
    record {
      low = sum_low _;
      to_come = rw c.from.ensures (sym (sum_more l.sum _ l.byte-index c.loop-byte-test.true) ∙ l.invariant.to_come);
    }

pub returns : goal.returns
returns c = let l = c.loop-byte in sym (sum_all l.sum _ l.byte-index c.loop-byte-test.false) ∙ l.invariant.to_come
