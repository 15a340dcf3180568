-- After i turns the first i numbers are put.
use Rattle.std.proofs.Common.{take}
use Rattle.model.specs.Text.{each}
use Rattle.answer_text.specs.Put.{Put}
use Rattle.answer_text.proofs.put_each.Given as goal

abbrev pub invariant-loop-number : goal.invariant-loop-number
invariant-loop-number l = Put l.at (each l.word (take l.number-index l.numbers)) l.initial.buffer l.buffer l.end
