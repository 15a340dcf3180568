-- After i turns the first i numbers are those of the bytes.
use Rattle.std.proofs.Common.{◌≡◌}
use lib.Seq.{paste}
use Rattle.model.specs.Host.{words}
use Rattle.buffers.proofs.words.take_words.Given as goal

abbrev pub invariant-loop-i : goal.invariant-loop-i
invariant-loop-i l = l.numbers ≡ paste l.initial.numbers 0 (words l.bytes) l.i
