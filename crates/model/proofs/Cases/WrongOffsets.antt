-- Wrong answers about offsets that the promises shut out (W6): a byte rounded down, 256 written as 0, a span of FF without what is nearest to 256;
-- and that a span's ends would be less than a 256th apart.
use Prim.Native.Nat.{ℕ, ◌*◌, ◌-◌, ◌≤◌, ◌<◌}
use mathlib.Core.Path.{◌≡◌, refl, sym, ap}
use mathlib.Core.List.{List, [], ◌∷◌, ◌++◌}
use native.Mathlib.Omega.{arith}
use lib.ListN.{length, take, get_or}
use Rattle.model.specs.declared.Span.{Span}
use Rattle.model.specs.Answer.{WriteAnswer, lines_read}
use Rattle.model.specs.Stretch.{remains, check_stretch}
use Rattle.model.specs.Reference.{byte}
use Rattle.model.specs.Choice.{stretch_bytes}
use Rattle.model.specs.LegTests.{legs_before, leg_count}
use Rattle.model.specs.Span.{SpanRead, unflagged}
use Rattle.model.specs.Outcome.{read, ReadEnd, ReadOn, Reads, written, Writes}
use Rattle.model.specs.Work.{work_length}
use Rattle.model.specs.Call.{ReadCall, WriteCall}
use Rattle.model.proofs.Outcomes.{on_reads}
use Rattle.model.proofs.LegTests.{good_filled}
use Rattle.model.proofs.BestFound.{best_of_all, on_all_tests}
use Rattle.model.proofs.Cases.Computing.{computing}
use Rattle.model.proofs.Cases.Edges.{span, spanned}
use Rattle.model.proofs.Cases.Ridge.{map_bytes, ridge, three_points, stretch, three, cuts, three_legs, on_the_ridge}
use Rattle.model.proofs.Cases.Tie.{cut_in_two, none, legs_read}
use Rattle.model.proofs.Cases.WrongWriters.{left}
use Rattle.model.proofs.Cases.WrongReaders.{counted}
use Rattle.std.specs.Prelude.{Ok}
use Rattle.model.proofs.Answers.{same_lines}

-- The ridge's three points with a positive offset of this byte.
abbrev three_with : ℕ → List ℕ
three_with b = take 22 three_points ++ 0x58 ∷ b ∷ []

-- Where the stretch from an offset on has these bytes, every call leaves the offset's byte behind the others.
byte_left : (pos b tests : ℕ) (work bytes : List ℕ) {work' bytes' : List ℕ} {a : WriteAnswer} → check_stretch ridge (stretch pos) ≡ remains (stretch pos) →
    stretch_bytes ridge cuts (stretch pos) ≡ three_with b → 3 ≤ tests → work_length ≤ length work → 24 ≤ length bytes →
    WriteCall map_bytes (stretch pos) tests work bytes a work' bytes' → get_or bytes' 23 0 ≡ b
unfolding leg_count legs_before
byte_left pos b tests work bytes taken are all full enough c =
    let fits : length (stretch_bytes ridge cuts (stretch pos)) ≤ length bytes = rw are enough in
    let outcome : Writes map_bytes (stretch pos) tests (length work) (length bytes) (written (stretch_bytes ridge cuts (stretch pos)) 3 0) =
    on_all_tests map_bytes (stretch pos) tests (length work) (length bytes) _ full on_the_ridge.map taken all
    (best_of_all (good_filled ridge) cut_in_two fits) in
    ap (λ (bs : List ℕ). get_or bs 23 0) (left (three_with b) 3 0 (rw (sym are) outcome) c)

module _ (tests : ℕ) (work bytes : List ℕ) {work' bytes' : List ℕ} {a : WriteAnswer} (all : 3 ≤ tests) (full : work_length ≤ length work)
    (enough : 24 ≤ length bytes) where
  -- 256 × 4,981 ÷ 10,000 is 127.5: 80, and not 7F.
  pub no_byte_rounded_down : WriteCall map_bytes (stretch 4_981) tests work bytes a work' bytes' → (get_or bytes' 23 0 ≡ 0x80 → ⊥) → ⊥
  unfolding computing
  no_byte_rounded_down c other = other (byte_left 4_981 0x80 tests work bytes refl refl all full enough c)

  -- 256 × 9,999 ÷ 10,000 is 255.97, nearest to 256: FF, and not 00.
  pub no_wrapped_byte : WriteCall map_bytes (stretch 9_999) tests work bytes a work' bytes' → (get_or bytes' 23 0 ≡ 0xFF → ⊥) → ⊥
  unfolding computing
  no_wrapped_byte c other = other (byte_left 9_999 0xFF tests work bytes refl refl all full enough c)

-- Byte FF on 10,000.
last_span : SpanRead 10_000 (byte 0xFF) (span 9_942 9_999)
unfolding computing
last_span = spanned 10_000 0xFF 9_942 9_999 (omega arith) (omega arith) (λ o g. omega arith)

from_last : (work room : ℕ) → work_length ≤ work → 2 ≤ room → Reads map_bytes (three_with 0xFF) work room (read (0 ∷ 1 ∷ []) (span 9_942 9_999) none)
unfolding computing
from_last work room full enough =
    on_reads map_bytes (three_with 0xFF) {r = three (byte 0xFF)} work room _ full on_the_ridge.map refl
    (ReadOn.every_leg {legs = three_legs} refl legs_read
    (ReadEnd.accepted (record { pos_read = last_span; neg_read = unflagged }) (omega arith) (omega (arith, enough))))

-- A bound of a 256th, as it was before, that a span's ends would keep: those of FF on 10,000 are 57 apart.
pub no_bound_of_a_256th : ((leg b : ℕ) (s : Span) → SpanRead leg (byte b) s → 256 * (s.greatest - s.least) < leg) → ⊥
no_bound_of_a_256th bound = omega (arith, bound 10_000 0xFF (span 9_942 9_999) last_span)

-- 9,980 is the greatest offset whose nearest number of 256ths is 255; those from 9,981 on are written as FF too.
pub no_last_span_cut : (work lines : List ℕ) {n : ℕ} {pos neg : Span} {work' lines' : List ℕ} → work_length ≤ length work → 2 ≤ length lines →
    ReadCall map_bytes (three_with 0xFF) work lines (Ok (lines_read n pos neg)) work' lines' → (pos ≡ span 9_942 9_999 → ⊥) → ⊥
no_last_span_cut work lines full enough c other =
    other (same_lines (counted (0 ∷ 1 ∷ []) (span 9_942 9_999) none (from_last (length work) (length lines) full enough) c)).1
