-- After i turns, i groups of the number have been read.
use Rattle.std.proofs.Common.{◌≡◌, drop, ◌-◌, ◌^◌, ◌<◌}
use Rattle.model.specs.Number.{number, groups}
use Rattle.buffers.proofs.number.number_at.Given as goal

abbrev pub invariant-loop-i : goal.invariant-loop-i
invariant-loop-i l = record {
  weight_is : l.weight ≡ 128 ^ l.i;
  below : l.value < l.weight;
  to_come : groups (5 - l.i) l.weight l.value (drop l.at l.map) ≡ number (drop l.from l.map);
}
