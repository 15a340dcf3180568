-- What a call's answer says of the buffer that the call was lent.
use native.Mathlib.Omega.{arith}
use Prim.Native.Nat.{ℕ, ◌≤◌}
use mathlib.Core.Path.{◌≡◌, ◌∙◌, ap}
use mathlib.Core.List.{List}
use lib.ListN.{length, drop, length-append}
use Rattle.model.specs.declared.Span.{Span}
use Rattle.model.specs.Outcome.{ReadOutcome}
use Rattle.model.specs.Work.{placed}
use Rattle.model.specs.Call.{lines_after, ReadAnswers, ReadCall}
use Rattle.std.specs.Prelude.{Ok}
use Rattle.model.specs.Answer.{lines_read}

fits : {n : ℕ} {pos neg : Span} {o : ReadOutcome} {lines' : List ℕ} (lines : List ℕ) → ReadAnswers (Ok (lines_read n pos neg)) o → lines' ≡ lines_after o lines →
    n ≤ length lines'
unfolding lines_after placed
fits lines (ReadAnswers.lines {ls = ls}) e = omega (arith, ap length e ∙ length-append ls (drop (length ls) lines))

-- The lines that an accepted call counts are in the line buffer.
pub read_fits : {mb ref work before work' after : List ℕ} {n : ℕ} {pos neg : Span} → ReadCall mb ref work before (Ok (lines_read n pos neg)) work' after →
    n ≤ length after
read_fits {before = before} c = fits before c.called.answered.answers c.called.answered.buffer_after
