-- The places so far have their marks.
use Rattle.marks.specs.Marks.{byte_mark_of, Marked}
use Rattle.marks.proofs.fill_bytes.Given as goal

abbrev pub invariant-loop-i : goal.invariant-loop-i
invariant-loop-i l = Marked byte_mark_of l.buffer 0 l.i
