-- The places so far have their marks.
use Rattle.marks.specs.Marks.{byte_mark_of, Marked}
use Rattle.marks.proofs.bytes_kept.Given as goal

abbrev pub invariant-loop-i : goal.invariant-loop-i
invariant-loop-i l = Marked byte_mark_of l.buffer l.from l.i
