-- What is left to sum goes on from the sum so far.
use Rattle.std.proofs.Common.{◌≡◌, ◌<◌, drop}
use Rattle.model.specs.Front.{sum_modulus, summed}
use Rattle.map_sum.proofs.rest_sum.Given as goal

abbrev pub invariant-loop-byte : goal.invariant-loop-byte
invariant-loop-byte l = record {
  low : l.sum < sum_modulus;
  to_come : summed l.sum (drop l.byte-index l.byte-items) ≡ summed l.start (drop l.from l.map);
}
