-- What every call on the ridge answers, whatever its work area and its buffers hold (paper 01, "The tie at the ridge").
use Prim.Native.Nat.{ℕ, ◌≤◌}
use mathlib.Core.Path.{◌≡◌, refl}
use mathlib.Core.List.{List, [], ◌∷◌}
use native.Mathlib.Omega.{arith}
use lib.ListN.{length}
use Rattle.model.specs.declared.Span.{Span}
use Rattle.model.specs.Answer.{ReadAnswer, WriteAnswer, bytes_written, lines_read}
use Rattle.model.specs.Reference.{absent, byte, Reference}
use Rattle.model.specs.Reading.{matching, Leg, Only}
use Rattle.model.specs.Stretch.{Stretch}
use Rattle.model.specs.Refusal.{row, row_at}
use Rattle.model.specs.Outcome.{LegsRead, ReadOutcome, read, ReadEnd, ReadOn, Reads, written, WriteOutcome, Writes}
use Rattle.model.specs.Span.{unflagged}
use Rattle.model.specs.Work.{work_length}
use Rattle.model.specs.Call.{lines_after, bytes_after, ReadAnswers, WriteAnswers, ReadCall, WriteCall}
use Rattle.model.proofs.Once.{reads_once, writes_once}
use Rattle.model.proofs.Outcomes.{on_reads, on_writes}
use Rattle.model.proofs.LegTests.{tests_within, good_filled}
use Rattle.model.proofs.BestFound.{best_of_all, on_all_tests}
use Rattle.model.proofs.Cases.Computing.{computing}
use Rattle.model.proofs.Cases.Edges.{byte_80_on_the_ridge}
use Rattle.model.proofs.Cases.Ways.{finding, connects}
use Rattle.model.proofs.Cases.Legs.{reading, only, sectors}
use Rattle.model.proofs.Cases.Ridge.{map_bytes, ridge, three_points, three_from5000, two_points, road, point, stretch, three_legs, on_the_ridge}
use Rattle.model.proofs.Cases.Tie.{tie_several, cut_in_two, line_1_untested, none, from_5000, legs_read, spans_from_5000}
use Rattle.std.specs.Prelude.{Ok}

-- A call has one outcome, which says its answer and what it leaves in its buffer.
pub read_as : {mb ref work lines work' lines' : List ℕ} {a : ReadAnswer} {o : ReadOutcome} → Reads mb ref (length work) (length lines) o →
    ReadCall mb ref work lines a work' lines' → ReadAnswers a o × (lines' ≡ lines_after o lines)
read_as {mb} {ref} {work} {lines} h c =
    let same = reads_once mb ref (length lines) (length work) c.called.answered.asked h in (rw same at c.called.answered.answers, rw same at c.called.answered.buffer_after)

pub write_as : {mb work bytes work' bytes' : List ℕ} {s : Stretch} {tests : ℕ} {a : WriteAnswer} {o : WriteOutcome} →
    Writes mb s tests (length work) (length bytes) o → WriteCall mb s tests work bytes a work' bytes' → WriteAnswers a o × (bytes' ≡ bytes_after o bytes)
write_as {mb} {work} {bytes} {s = s} {tests = tests} h c =
    let same = writes_once mb s tests (length bytes) (length work) c.called.answered.asked h in
    (rw same at c.called.answered.answers, rw same at c.called.answered.buffer_after)

pub read_answer : {a : ReadAnswer} {ls : List ℕ} {pos neg : Span} → ReadAnswers a (read ls pos neg) → a ≡ Ok (lines_read (length ls) pos neg)
read_answer ReadAnswers.lines = refl

pub write_answer : {a : WriteAnswer} {bs : List ℕ} {made excess : ℕ} → WriteAnswers a (written bs made excess) → a ≡ Ok (bytes_written (length bs) made excess)
write_answer WriteAnswers.bytes = refl

-- Over the top: from node 1 to node 3 by lines 2 and 3, which leave in sector 0. Longitude 1000 has code 466.
abbrev pub over_the_top : List ℕ
over_the_top = 0x0B ∷ 0 ∷ 0x01 ∷ 0xD2 ∷ 0 ∷ 0 ∷ 0 ∷ 0x1B ∷ 0x60 ∷ 0x01 ∷ 0x03 ∷ 0xE8 ∷ 0 ∷ 0 ∷ 0x1B ∷ 0x18 ∷ []

abbrev pub top : Leg
top = record { from = 1; to = 3; leaves = road 0; lowest = 3; distance = 1; arrival = matching (road 24) }

pub top_only : Only ridge top (2 ∷ 3 ∷ [])
unfolding computing finding
top_only =
    only ridge top refl (2 ∷ 3 ∷ []) (reading ridge top refl (2 ∷ 3 ∷ []) (search (connects, arith)) refl (omega arith))
    (λ r. refl, (λ r. absurd (omega (arith, sectors r.allowed.leaves)), tt))

-- The three points with negative offset 5,000.
abbrev pub three_to5000 : List ℕ
three_to5000 =
    0x0B ∷ 0 ∷ 0 ∷ 0 ∷ 0 ∷ 0 ∷ 0 ∷ 0x1B ∷ 0x68 ∷ 0x01 ∷ 0x03 ∷ 0xE8 ∷ 0 ∷ 0 ∷ 0x1B ∷ 0x68 ∷ 0x01 ∷ 0x03 ∷ 0xE8 ∷ 0 ∷ 0 ∷ 0x1B ∷ 0x38 ∷ 0x80 ∷ []

abbrev three_to : Reference
three_to =
    record { lon = 0; lat = 0; points = point 1 1_000 ∷ point 1 1_000 ∷ []; arrives = road 24; pos = absent; neg = byte 0x80 }

-- The outcomes with a full work area and buffers that are long enough.
module _ (work room : ℕ) (full : work_length ≤ work) where
  pub two_points_lem : Reads map_bytes two_points work room (ReadOutcome.refused (row_at 18 0))
  two_points_lem =
      on_reads map_bytes two_points work room _ full on_the_ridge.map on_the_ridge.two_parsed
      (ReadOn.no_leg on_the_ridge.two_located (LegsRead.several tie_several))

  pub three_points_lem : 2 ≤ room → Reads map_bytes three_points work room (read (0 ∷ 1 ∷ []) none none)
  unfolding computing
  three_points_lem fits =
      on_reads map_bytes three_points work room _ full on_the_ridge.map on_the_ridge.three_parsed
      (ReadOn.every_leg on_the_ridge.three_located legs_read
      (ReadEnd.accepted (record { pos_read = unflagged; neg_read = unflagged }) (omega arith) (omega arith)))

  pub three_from_5000 : 2 ≤ room → Reads map_bytes three_from5000 work room (read (0 ∷ 1 ∷ []) from_5000 none)
  unfolding computing
  three_from_5000 fits =
      on_reads map_bytes three_from5000 work room _ full on_the_ridge.map on_the_ridge.three_from_5000_parsed
      (ReadOn.every_leg on_the_ridge.three_from_5000_located legs_read (ReadEnd.accepted spans_from_5000 (omega arith) (omega arith)))

  pub three_to_5000 : 2 ≤ room → Reads map_bytes three_to5000 work room (read (0 ∷ 1 ∷ []) none from_5000)
  unfolding computing
  three_to_5000 fits =
      on_reads map_bytes three_to5000 {r = three_to} work room _ full on_the_ridge.map refl
      (ReadOn.every_leg {legs = three_legs} refl legs_read
      (ReadEnd.accepted (record { pos_read = unflagged; neg_read = byte_80_on_the_ridge }) (omega arith) (omega arith)))

  pub over_the_top_lem : 2 ≤ room → Reads map_bytes over_the_top work room (read (2 ∷ 3 ∷ []) none none)
  unfolding computing
  over_the_top_lem fits =
      on_reads map_bytes over_the_top
      {r =
      record {
        lon = 466;
        lat = 0;
        points = record { leaves = road 0; lowest = 3; distance = 1; next = record { lon = 1_000; lat = 0 } } ∷ [];
        arrives = road 24;
        pos = absent;
        neg = absent;
      }}
      work room _ full on_the_ridge.map refl
      (ReadOn.every_leg {legs = top ∷ []} refl (LegsRead.only top_only LegsRead.none)
      (ReadEnd.accepted (record { pos_read = unflagged; neg_read = unflagged }) (omega arith) (omega arith)))

  -- With a test for each of the three legs, or more; and with fewer (W7).
  module _ (tests : ℕ) where
    pub stretch_written : 3 ≤ tests → 23 ≤ room → Writes map_bytes (stretch 0) tests work room (written three_points 3 0)
    unfolding computing
    stretch_written all fits =
        on_all_tests map_bytes (stretch 0) tests work room _ full on_the_ridge.map on_the_ridge.stretch_0 all
        (best_of_all (good_filled ridge) cut_in_two (omega arith))

    pub stretch_written_from_5000 : 3 ≤ tests → 24 ≤ room → Writes map_bytes (stretch 5_000) tests work room (written three_from5000 3 0)
    unfolding computing
    stretch_written_from_5000 all fits =
        on_all_tests map_bytes (stretch 5_000) tests work room _ full on_the_ridge.map on_the_ridge.stretch_5000 all
        (best_of_all (good_filled ridge) cut_in_two (omega arith))

    pub stretch_unfinished : tests ≤ 2 → Writes map_bytes (stretch 0) tests work room (WriteOutcome.refused (row 26))
    stretch_unfinished few =
        on_writes map_bytes (stretch 0) tests work room _ full on_the_ridge.map on_the_ridge.stretch_0
        (line_1_untested _ room (omega (arith, few, tests_within 2 tests)))
