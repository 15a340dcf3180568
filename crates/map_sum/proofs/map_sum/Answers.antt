-- A block more.
use Rattle.std.proofs.Common.{arith, ◌≡◌, refl, sym, ◌∙◌, ◌+◌, ◌*◌, ◌≤◌, length}
use Rattle.model.specs.Front.{map_sum}
use Rattle.model.proofs.Sums.{sum_low}
use Rattle.map_sum.specs.Blocks.{low_weights, high_weights}
use Rattle.map_sum.proofs.Sums.{sum_block}
use Rattle.map_sum.proofs.map_sum.Goals as goal

pub loop-i-init : goal.loop-i-init
unfolding map_sum
loop-i-init c = record { low = omega arith; to_come = refl }

pub block_sum-requires : goal.block_sum-requires
unfolding low_weights high_weights
block_sum-requires c = (omega arith, refl, refl)

pub loop-i-preserved : goal.loop-i-preserved
loop-i-preserved c =
    let l = c.loop-i in
    let map = c.args.map.now in
    let inside : l.i * 64 + 64 ≤ length map = omega arith in
    let next : (l.i + 1) * 64 ≡ l.i * 64 + 64 = omega arith in
    record {
      low = sum_low _;
      to_come = rw next (sym (sum_block l.sum map (l.i * 64) c.block_sum.result l.invariant.low inside c.block_sum.ensures.0) ∙ l.invariant.to_come);
    }
