-- What is left to sum goes on from the sum of the blocks so far.
use Rattle.std.proofs.Common.{◌≡◌, ◌*◌, ◌<◌, drop}
use Rattle.model.specs.Front.{sum_modulus, summed, map_sum}
use Rattle.map_sum.proofs.map_sum.Given as goal

abbrev pub invariant-loop-i : goal.invariant-loop-i
invariant-loop-i l = record {
  low : l.sum < sum_modulus;
  to_come : summed l.sum (drop (l.i * 64) l.map) ≡ map_sum l.map;
}
