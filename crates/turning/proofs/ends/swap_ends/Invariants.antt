-- After `l` turns the lines below `l` are turned round.
use Rattle.turning.specs.Turned.{EndsSwapped}
use Rattle.turning.proofs.ends.swap_ends.Given as goal

abbrev pub invariant-loop-l : goal.invariant-loop-l
invariant-loop-l l = EndsSwapped l.l l.fn.work l.work
