-- Number n of the message is number n - i of what stands from `at` on, and each turn took a byte at least.
use Rattle.std.proofs.Common.{◌-◌, ◌≤◌}
use Rattle.message_laws.proofs.Parts.{Asked}
use Rattle.message_list.proofs.place_behind.Given as goal

abbrev pub invariant-loop-i : goal.invariant-loop-i
invariant-loop-i l = Asked l.n l.message l.at (l.n - l.i) × (l.i ≤ l.at)
