-- After `i` turns the codes of the first `i` nodes stand in their place.
use Rattle.equal_codes.specs.Codes.{CodesPut}
use Rattle.equal_codes.proofs.put_codes.Given as goal

abbrev pub invariant-loop-i : goal.invariant-loop-i
invariant-loop-i l = CodesPut l.i l.fn.work l.work
