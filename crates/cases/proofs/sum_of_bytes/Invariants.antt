-- What is left to sum goes on from the sum so far.
use Rattle.std.proofs.Common.{◌≡◌, ◌-◌, ◌<◌}
use Rattle.cases.specs.Sum.{modulus, sum_from}
use Rattle.cases.proofs.sum_of_bytes.Given as goal

abbrev pub invariant-loop-i : goal.invariant-loop-i
invariant-loop-i l = record {
  low : l.total < modulus;
  left : sum_from l.bytes l.i (l.to - l.i) l.total ≡ sum_from l.bytes 0 l.to 0;
}
