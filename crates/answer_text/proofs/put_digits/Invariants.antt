-- The digits that stand behind place i, and those of the number left before them, are the number's.
use Rattle.std.proofs.Common.{◌≡◌, ◌++◌, drop}
use Rattle.model.specs.Text.{digits, decimal}
use Rattle.answer_text.proofs.put_digits.Given as goal

abbrev pub invariant-loop-i : goal.invariant-loop-i
invariant-loop-i l = digits l.i l.rest ++ drop l.i l.digits ≡ decimal l.number
