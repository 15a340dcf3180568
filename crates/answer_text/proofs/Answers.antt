-- The text of an answer and a line buffer, by the answer.
use Prim.Native.Nat.{ℕ, min}
use mathlib.Core.Path.{◌≡◌, sym, ◌∙◌, ap, ap₂}
use mathlib.Core.List.{List, ◌++◌}
use lib.ListN.{length, take, length-take}
use Rattle.model.specs.declared.Refusal.{Refusal}
use Rattle.model.specs.declared.ReadLines.{ReadLines}
use Rattle.model.specs.Answer.{ReadAnswer}
use Rattle.std.specs.Prelude.{Ok, Err}
use Rattle.model.specs.Refusal.{refusal_of}
use Rattle.model.specs.Text.{acceptance, each, refusal, row_end, text, told}
use Rattle.answer_text.proofs.Putting.{take_lesser}

module _ {a : ReadAnswer} (lines : List ℕ) where
  pub accepted_text : {found : ReadLines} {counted : ℕ} → a ≡ Ok found → counted ≡ min found.count (length lines) →
      acceptance counted found.positive found.negative ++ each row_end (take counted lines) ++ row_end ≡ text (told a lines)
  unfolding text told
  accepted_text {found} {counted} e size =
      let handed : counted ≡ length (take found.count lines) = size ∙ sym (length-take found.count lines) in
      ap₂ (λ (n : ℕ) (ls : List ℕ). acceptance n found.positive found.negative ++ each row_end ls ++ row_end) handed (take_lesser counted found.count lines size)
      ∙ sym (ap (λ (answer : ReadAnswer). text (told answer lines)) e)

  pub refused_text : {why : Refusal} → a ≡ Err why → refusal (refusal_of why) ++ row_end ≡ text (told a lines)
  unfolding text told
  refused_text e = sym (ap (λ (answer : ReadAnswer). text (told answer lines)) e)
