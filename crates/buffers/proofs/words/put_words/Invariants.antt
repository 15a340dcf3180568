-- After i turns the bytes of the first i numbers stand first.
use Rattle.std.proofs.Common.{◌≡◌, ◌*◌, ◌++◌, take, drop}
use Rattle.model.specs.Host.{word_bytes}
use Rattle.buffers.proofs.words.put_words.Given as goal

abbrev pub invariant-loop-i : goal.invariant-loop-i
invariant-loop-i l = l.bytes ≡ word_bytes (take l.i l.numbers) ++ drop (l.i * 4) l.initial.bytes
