-- Each part lies inside the bytes and behind the one before it, and so does the map at hand.
use Rattle.std.proofs.Common.{◌-◌, ◌≤◌, length}
use Rattle.test_messages.proofs.run.Given as goal

abbrev pub invariant-loop-part : goal.invariant-loop-part
invariant-loop-part g l = (l.at ≤ length l.bytes) × (l.map.start ≤ l.map.end) × (l.map.end ≤ length l.bytes)

abbrev pub decreases-loop-part : goal.decreases-loop-part
decreases-loop-part g l = length l.bytes - l.at
