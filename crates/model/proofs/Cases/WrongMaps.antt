-- Wrong readings of a map that the promises shut out: no call of the reader on these bytes, whatever its reference and its buffers, can be answered so.
use Prim.Native.Nat.{ℕ, ◌≤◌}
use mathlib.Core.Path.{◌≡◌, refl}
use mathlib.Core.List.{List, [], ◌∷◌}
use lib.ListN.{length}
use borrow.Author.Tests.{le-ltb}
use Rattle.model.specs.declared.Refusal.{Refusal}
use Rattle.model.specs.declared.Span.{Span}
use Rattle.model.specs.Refusal.{Refused, row, refusal_of}
use Rattle.model.specs.Map.{MapAnswer, decode}
use Rattle.model.specs.Outcome.{ReadOutcome, Reads}
use Rattle.model.specs.Work.{work_length}
use Rattle.model.specs.Call.{ReadCall}
use Rattle.model.proofs.Cases.Computing.{computing}
use Rattle.model.proofs.Cases.Maps.{two_nodes, one_line, some_line, drawn_line}
use Rattle.model.proofs.Cases.WrongReaders.{no_list_where_refused, only_this_refusal}
use Rattle.std.specs.Prelude.{Err, Ok}
use Rattle.model.specs.Answer.{lines_read}

-- Calls of the reader on these bytes, with a full work area, answer no list and no other refusal than this number.
pub record OnlyRefused (mb : List ℕ) (n : ℕ) : Type 0 where
  pub no_list : (ref work lines : List ℕ) {work' lines' : List ℕ} {k : ℕ} {pos neg : Span} → work_length ≤ length work →
      ReadCall mb ref work lines (Ok (lines_read k pos neg)) work' lines' → ⊥
  pub no_other : (ref work lines : List ℕ) {work' lines' : List ℕ} (why : Refusal) → work_length ≤ length work →
      ReadCall mb ref work lines (Err why) work' lines' → (refusal_of why ≡ row n → ⊥) → ⊥

refused_map : (mb ref : List ℕ) (r : Refused) (work room : ℕ) → work_length ≤ work → decode mb ≡ MapAnswer.refused r →
    Reads mb ref work room (ReadOutcome.refused r)
refused_map mb ref r work room full d = rw (le-ltb work work_length full, d) refl

only_refused : (mb : List ℕ) (n : ℕ) → decode mb ≡ MapAnswer.refused (row n) → OnlyRefused mb n
only_refused mb n d =
    record {
      no_list = λ ref work lines full c. no_list_where_refused (row n) (refused_map mb ref (row n) (length work) (length lines) full d) c;
      no_other = λ ref work lines why full c other.
          other (only_this_refusal (row n) (refused_map mb ref (row n) (length work) (length lines) full d) c);
    }

-- A reader that takes a step of 251 decimetres, here the last number but one: it would take the whole map (W3).
pub no_step_of_251 : OnlyRefused (drawn_line (0 ∷ 0 ∷ 0 ∷ 0xF5 ∷ 0x03 ∷ 0 ∷ [])) 24
unfolding computing
no_step_of_251 = only_refused _ 24 refl

-- One that takes steps that are both 0: it would take the whole map (W3).
pub no_steps_of_0 : OnlyRefused (drawn_line (0 ∷ 0 ∷ 0xFA ∷ 0x01 ∷ 0xFA ∷ 0x01 ∷ 0 ∷ [])) 24
unfolding computing
no_steps_of_0 = only_refused _ 24 refl

-- One that looks for a step's number before it tests the one before it: "80 00" behind an east step of 251 would be refused with 2 (W3).
pub no_step_passed_over : OnlyRefused (drawn_line (0xF5 ∷ 0x03 ∷ 0x80 ∷ 0 ∷ [])) 24
unfolding computing
no_step_passed_over = only_refused _ 24 refl

-- One that takes a line whose ends are equal: it would miss the next number.
pub no_equal_ends : OnlyRefused (one_line (1 ∷ 1 ∷ [])) 5
unfolding computing
no_equal_ends = only_refused _ 5 refl

-- One that takes a latitude beyond the pole: it would miss the next number.
pub no_latitude_beyond_the_pole : OnlyRefused (2 ∷ 0 ∷ 0x81 ∷ 0xD1 ∷ 0xCA ∷ 0x08 ∷ []) 4
unfolding computing
no_latitude_beyond_the_pole = only_refused _ 4 refl

-- One that takes "80 00", here for the end node: it would find equal ends.
pub no_padded_number : OnlyRefused (one_line (0 ∷ 0x80 ∷ 0 ∷ [])) 2
unfolding computing
no_padded_number = only_refused _ 2 refl

-- One that takes bytes after the last number: it would go on to the reference.
pub no_left_over_bytes : OnlyRefused (two_nodes (some_line (0 ∷ 0 ∷ []))) 2
unfolding computing
no_left_over_bytes = only_refused _ 2 refl
