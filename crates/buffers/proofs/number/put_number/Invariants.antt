-- After i turns i groups stand there, and what is left of the number is still to come.
use Rattle.buffers.proofs.Numbers.{Putting}
use Rattle.buffers.proofs.number.put_number.Given as goal

abbrev pub invariant-loop-i : goal.invariant-loop-i
invariant-loop-i l = Putting l.number l.initial.bytes l.bytes l.i l.rest
