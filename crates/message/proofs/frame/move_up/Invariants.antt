-- From the last byte down, each goes one place up.
use Rattle.message.proofs.Places.{Moving}
use Rattle.message.proofs.frame.move_up.Given as goal

abbrev pub invariant-loop-i : goal.invariant-loop-i
invariant-loop-i l = Moving l.count l.initial.part l.part l.i
