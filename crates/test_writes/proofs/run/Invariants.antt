-- Each part lies inside the bytes and behind the one before it, and so does the map at hand.
use Rattle.std.proofs.Common.{◌-◌, ◌≤◌, length}
use Rattle.test_writes.proofs.run.Given as goal

abbrev pub invariant-loop-given : goal.invariant-loop-given
invariant-loop-given g l = (l.at ≤ length l.file) × (l.map.start ≤ l.map.end) × (l.map.end ≤ length l.file)

abbrev pub decreases-loop-given : goal.decreases-loop-given
decreases-loop-given g l = length l.file - l.at
