-- What is left to sum goes on from the sum so far.
use Rattle.std.proofs.Common.{◌≡◌, ◌-◌, ◌<◌}
use Rattle.cases.specs.Sum.{modulus, sum_from}
use Rattle.cases.proofs.sum_of.Given as goal

abbrev pub invariant-loop-i : goal.invariant-loop-i
invariant-loop-i l = record {
  low : l.total < modulus;
  left : sum_from l.numbers l.i (l.to - l.i) l.total ≡ sum_from l.numbers l.from (l.to - l.from) l.sum;
}
