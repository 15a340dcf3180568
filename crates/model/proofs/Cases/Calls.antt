-- Worked cases of paper 01, "Refused, by place", below the table, and of the host's calls: one table, one theorem.
use Prim.Native.Nat.{ℕ}
use mathlib.Core.Path.{◌≡◌, refl}
use mathlib.Core.List.{List, [], ◌∷◌, ◌++◌, map}
use lib.ListN.{replicate}
use Rattle.model.specs.declared.Span.{Span}
use Rattle.model.specs.Refusal.{row, row_at}
use Rattle.model.specs.Stretch.{Stretch, StretchAnswer, check_stretch}
use Rattle.model.specs.Outcome.{ReadOutcome, read, Reads, WriteOutcome, written, Writes}
use Rattle.model.specs.Work.{cleared, placed}
use Rattle.model.specs.Call.{lines_after, bytes_after, ReadAnswers, WriteAnswers}
use Rattle.model.specs.Host.{words, word_bytes, host_stretch, host_room, HostRead, host_read, host_written, host_lines_after, host_bytes_after}
use Rattle.model.proofs.Cases.Computing.{computing}
use Rattle.model.proofs.Cases.Ridge.{map_bytes, ridge}
use Rattle.std.specs.Prelude.{Ok}
use Rattle.model.specs.Answer.{bytes_written, lines_read}

abbrev nowhere : Stretch
nowhere = record { lines = []; pos = 0; neg = 0 }

abbrev span : ℕ → ℕ → Span
span least greatest = record { least = least; greatest = greatest }

abbrev hosted : ℕ → ℕ → ℕ → HostRead
hosted refusal place lines =
    record { refusal = refusal; place = place; lines = lines; pos_least = 0; pos_greatest = 0; neg_least = 0; neg_greatest = 0 }

pub record CallCases : Type 0 where
  -- A work area of 14,335 is refusal 1 for every call, one of 14,336 is not; then the map (2), then the stretch (7) or the reference (12).
  pub short_read : (mb ref : List ℕ) (room : ℕ) → Reads mb ref 14_335 room (ReadOutcome.refused (row 1))
  pub short_write : (mb : List ℕ) (s : Stretch) (tests room : ℕ) → Writes mb s tests 14_335 room (WriteOutcome.refused (row 1))
  pub map_first : Reads [] [] 14_336 0 (ReadOutcome.refused (row 2)) × Writes [] nowhere 0 14_336 0 (WriteOutcome.refused (row 2))
  pub then_the_rest : Reads map_bytes [] 14_336 0 (ReadOutcome.refused (row 12)) × Writes map_bytes nowhere 0 14_336 0 (WriteOutcome.refused (row 7))
  -- "The result stands first in its buffer, the rest unchanged"; "a refusal leaves the byte and line buffers unchanged".
  pub places : placed {A = ℕ} (1 ∷ 2 ∷ []) (7 ∷ 8 ∷ 9 ∷ []) ≡ 1 ∷ 2 ∷ 9 ∷ []
  pub line_buffers : map (λ o. lines_after o (7 ∷ 8 ∷ 9 ∷ [])) (read (1 ∷ []) (span 2 3) (span 4 5) ∷ ReadOutcome.refused (row 20) ∷ []) ≡
      (1 ∷ 8 ∷ 9 ∷ []) ∷ (7 ∷ 8 ∷ 9 ∷ []) ∷ []
  pub byte_buffers : map (λ o. bytes_after o (7 ∷ 8 ∷ 9 ∷ [])) (written (1 ∷ []) 3 0 ∷ WriteOutcome.refused (row 11) ∷ []) ≡
      (1 ∷ 8 ∷ 9 ∷ []) ∷ (7 ∷ 8 ∷ 9 ∷ []) ∷ []
  -- "The first 14,336 of the work area are zero and the rest unchanged; refusal 1 changes nothing."
  pub zeroed : cleared (replicate 14_336 7 ++ 8 ∷ 9 ∷ []) ≡ replicate 14_336 0 ++ 8 ∷ 9 ∷ []
  pub not_zeroed : cleared (replicate 14_335 7) ≡ replicate 14_335 7
  -- Answers count.
  pub read_count : ReadAnswers (Ok (lines_read 2 (span 2 3) (span 4 5))) (read (0 ∷ 1 ∷ []) (span 2 3) (span 4 5))
  pub write_count : WriteAnswers (Ok (bytes_written 3 9 1)) (written (7 ∷ 8 ∷ 9 ∷ []) 9 1)
  -- "Each line number as four bytes, low byte first."
  pub line_numbers : words (0x02 ∷ 0x01 ∷ 0 ∷ 0 ∷ 0x03 ∷ 0 ∷ 0x04 ∷ 0x05 ∷ 9 ∷ 9 ∷ 9 ∷ []) ≡ 258 ∷ 84_148_227 ∷ []
  pub number_bytes : word_bytes (258 ∷ 84_148_227 ∷ []) ≡ 0x02 ∷ 0x01 ∷ 0 ∷ 0 ∷ 0x03 ∷ 0 ∷ 0x04 ∷ 0x05 ∷ []
  -- "A byte list whose length is no multiple of four is refusal 7."
  pub host_stretch_lem : host_stretch (1 ∷ 0 ∷ 0 ∷ 0 ∷ 3 ∷ 0 ∷ 0 ∷ 0 ∷ []) 20 30 ≡ record { lines = 1 ∷ 3 ∷ []; pos = 20; neg = 30 }
  pub odd_bytes : map (λ bs. check_stretch ridge (host_stretch bs 0 0))
      ((0 ∷ []) ∷ (0 ∷ 0 ∷ []) ∷ (0 ∷ 0 ∷ 0 ∷ []) ∷ (0 ∷ 0 ∷ 0 ∷ 0 ∷ 0 ∷ []) ∷ []) ≡
      replicate 4 (StretchAnswer.refused (row 7))
  -- "A quarter of its bytes, rounded down", and at most 1,024.
  pub host_rooms : map host_room (3 ∷ 4 ∷ 7 ∷ 8 ∷ 4_096 ∷ 4_100 ∷ []) ≡ 0 ∷ 1 ∷ 1 ∷ 2 ∷ 1_024 ∷ 1_024 ∷ []
  pub host_answers : map host_read
      (ReadOutcome.refused (row 19) ∷ ReadOutcome.refused (row_at 17 3) ∷ read (7 ∷ 8 ∷ []) (span 0 0) (span 0 0) ∷ []) ≡
      hosted 19 0 0 ∷ hosted 17 3 0 ∷ hosted 0 0 2 ∷ []
  pub host_spans : host_read (read (7 ∷ []) (span 2 3) (span 4 5)) ≡
      record { refusal = 0; place = 0; lines = 1; pos_least = 2; pos_greatest = 3; neg_least = 4; neg_greatest = 5 }
  pub host_written_lem : map host_written (WriteOutcome.refused (row 10) ∷ written (7 ∷ 8 ∷ 9 ∷ []) 9 1 ∷ []) ≡
      record { refusal = 10; bytes = 0; tests = 0; excess = 0 } ∷ record { refusal = 0; bytes = 3; tests = 9; excess = 1 } ∷ []
  pub host_lines : map (λ o. host_lines_after o (7 ∷ 7 ∷ 7 ∷ 7 ∷ 7 ∷ []))
      (read (258 ∷ []) (span 2 3) (span 4 5) ∷ ReadOutcome.refused (row_at 16 0) ∷ []) ≡
      (2 ∷ 1 ∷ 0 ∷ 0 ∷ 7 ∷ []) ∷ (7 ∷ 7 ∷ 7 ∷ 7 ∷ 7 ∷ []) ∷ []
  pub host_bytes : map (λ o. host_bytes_after o (7 ∷ 8 ∷ 9 ∷ [])) (written (1 ∷ []) 3 0 ∷ WriteOutcome.refused (row 11) ∷ []) ≡
      (1 ∷ 8 ∷ 9 ∷ []) ∷ (7 ∷ 8 ∷ 9 ∷ []) ∷ []

pub call_cases : CallCases
unfolding computing
call_cases =
    record {
      short_read = λ mb ref room. refl;
      short_write = λ mb s tests room. refl;
      map_first = (refl, refl);
      then_the_rest = (refl, refl);
      places = refl;
      line_buffers = refl;
      byte_buffers = refl;
      zeroed = refl;
      not_zeroed = refl;
      read_count = ReadAnswers.lines {ls = 0 ∷ 1 ∷ []};
      write_count = WriteAnswers.bytes {bs = 7 ∷ 8 ∷ 9 ∷ []};
      line_numbers = refl;
      number_bytes = refl;
      host_stretch_lem = refl;
      odd_bytes = refl;
      host_rooms = refl;
      host_answers = refl;
      host_spans = refl;
      host_written_lem = refl;
      host_lines = refl;
      host_bytes = refl;
    }
