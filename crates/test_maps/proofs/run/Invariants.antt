-- Each part lies inside the bytes and behind the one before it.
use Rattle.std.proofs.Common.{◌-◌, ◌≤◌, length}
use Rattle.model.specs.Work.{work_length}
use Rattle.test_maps.proofs.run.Given as goal

abbrev pub invariant-loop-part : goal.invariant-loop-part
invariant-loop-part g l = (l.at ≤ length l.bytes) × (work_length ≤ length l.work)

abbrev pub decreases-loop-part : goal.decreases-loop-part
decreases-loop-part g l = length l.bytes - l.at
