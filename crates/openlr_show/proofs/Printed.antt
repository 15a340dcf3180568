-- What is put for an answer of the reader is what is printed for the map and the reference.
use Prim.Native.Nat.{ℕ, ◌≤◌}
use mathlib.Core.Path.{◌≡◌, sym, ◌∙◌, ap, subst}
use mathlib.Core.List.{List}
use native.Mathlib.Omega.{arith}
use lib.ListN.{length, take, drop, replicate, length-replicate}
use lib.Seq.{take_at}
use Rattle.model.specs.Answer.{ReadAnswer}
use Rattle.model.specs.Work.{work_length, placed}
use Rattle.model.specs.Outcome.{Reads}
use Rattle.model.specs.Call.{ReadCall}
use Rattle.model.specs.Text.{text, told, printed_lines}
use Rattle.model.proofs.Text.{told_most, told_outcome}
use Rattle.answer_text.specs.Put.{Put}
use Rattle.answer_text.proofs.Putting.{put_whole}
use Rattle.openlr_show.specs.Made.{Made, greatest_text}

-- The length of a new buffer.
pub zeros : (n : ℕ) → length {0} {A = ℕ} (replicate {0} {A = ℕ} n 0) ≡ n
zeros n = length-replicate n 0

front : (n : ℕ) (s before after : List ℕ) → n ≡ length s → after ≡ placed s before → take n after ≡ s
unfolding placed
front n s before after size e = ap (take n) e ∙ take_at s (drop (length s) before) n (sym size)

pub made : {mb ref work lines work' lines' before after : List ℕ} {a : ReadAnswer} {n : ℕ} →
    length work ≡ work_length → length lines ≡ printed_lines → length lines' ≡ printed_lines →
    ReadCall mb ref work lines a work' lines' → greatest_text ≤ length before → Put 0 (text (told a lines')) before after n → Made mb ref after n
made {mb} {ref} {work} {lines} {work'} {lines'} {before} {after} {a} {n} full room room' call long p =
    let answered = call.called.answered in
    let asked = subst (λ (k : ℕ). Reads mb ref k (length lines) answered.outcome) full answered.asked in
    let whole = put_whole p (omega (arith, told_most a lines')) in
    record {
      counts = (p.within, p.counts);
      prints =
          record {
            outcome = answered.outcome;
            reads = subst (λ (k : ℕ). Reads mb ref work_length k answered.outcome) room asked;
            bytes_are =
                front n (text (told a lines')) before after whole.0 whole.1
                ∙ ap text (told_outcome lines lines' answered.answers answered.buffer_after);
          };
    }
