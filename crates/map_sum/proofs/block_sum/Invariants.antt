-- The two sums of the first bytes, by the parts of their weights.
use Rattle.std.proofs.Common.{drop}
use Rattle.map_sum.proofs.Partials.{Partial}
use Rattle.map_sum.proofs.block_sum.Given as goal

abbrev pub invariant-loop-i : goal.invariant-loop-i
invariant-loop-i l = record {
  by_low : Partial (drop l.at l.map) l.low l.i l.low_sum;
  by_high : Partial (drop l.at l.map) l.high l.i l.high_sum;
}
