-- Wrong answers of a writer and of a reader of points that their promises shut out: no call on the ridge, whatever its work area and its buffer hold, can be
-- answered so (W5).
use Prim.Native.Nat.{ℕ, ◌≤◌}
use mathlib.Core.Path.{◌≡◌, refl, sym, ap, ◌∙◌}
use mathlib.Core.List.{List, ◌∷◌, ◌++◌}
use native.Mathlib.Omega.{arith}
use lib.ListN.{length, drop, get_or}
use Rattle.model.specs.declared.Refusal.{Refusal}
use Rattle.model.specs.declared.Span.{Span}
use Rattle.model.specs.Answer.{PointReadAnswer, PointWriteAnswer, point_read}
use Rattle.model.specs.Work.{work_length, placed}
use Rattle.model.specs.PointAlong.{no_orientation, right_side, PointReadOutcome, read, PointReads, point_lines_after, PointReadAnswers, PointReadCall, GivenPoint, PointWriteOutcome, written, PointWrites, point_bytes_after, PointWriteAnswers, PointWriteCall}
use Rattle.model.proofs.PointReading.{point_reads_once}
use Rattle.model.proofs.PointWriting.{point_writes_once}
use Rattle.model.proofs.Cases.Ridge.{map_bytes}
use Rattle.model.proofs.Cases.Points.{hydrant, hydrant_bytes, next_hydrant, hydrant_span, top_point, hydrant_written, next_written, hydrant_read, over_the_top_read}
use Rattle.std.specs.Prelude.{Err, Ok}
use Rattle.model.proofs.Answers.{same_point}

-- A call has one outcome, which says its answer and what it leaves in its buffer.
write_as : {mb work bytes work' bytes' : List ℕ} {p : GivenPoint} {a : PointWriteAnswer} {o : PointWriteOutcome} →
    PointWrites mb p (length work) (length bytes) o → PointWriteCall mb p work bytes a work' bytes' → PointWriteAnswers a o × (bytes' ≡ point_bytes_after o bytes)
write_as {mb} {work} {bytes} {p = p} h c =
    let same = point_writes_once mb p (length bytes) (length work) c.called.answered.asked h in
    (rw same at c.called.answered.answers, rw same at c.called.answered.buffer_after)

write_answer : {a : PointWriteAnswer} {bs : List ℕ} → PointWriteAnswers a (written bs) → a ≡ Ok (length bs)
write_answer PointWriteAnswers.bytes = refl

read_as : {mb ref work lines work' lines' : List ℕ} {a : PointReadAnswer} {o : PointReadOutcome} → PointReads mb ref (length work) (length lines) o →
    PointReadCall mb ref work lines a work' lines' → PointReadAnswers a o × (lines' ≡ point_lines_after o lines)
read_as {mb} {ref} {work} {lines} h c =
    let same = point_reads_once mb ref (length lines) (length work) c.called.answered.asked h in
    (rw same at c.called.answered.answers, rw same at c.called.answered.buffer_after)

read_answer : {a : PointReadAnswer} {ls : List ℕ} {span : Span} {orientation side : ℕ} → PointReadAnswers a (read ls span orientation side) →
    a ≡ Ok (point_read (length ls) span orientation side)
read_answer PointReadAnswers.lines = refl

-- The writer, with a full work area and a byte buffer that is just long enough, or longer.
module _ (work bytes : List ℕ) (full : work_length ≤ length work) (enough : 17 ≤ length bytes) {work' bytes' : List ℕ} where
  left : {a : PointWriteAnswer} → PointWriteCall map_bytes hydrant work bytes a work' bytes' → bytes' ≡ hydrant_bytes ++ drop 17 bytes
  unfolding point_bytes_after placed
  left c = (write_as (hydrant_written (length work) (length bytes) full enough) c).1

  -- One that refuses the hydrant, for whatever reason, or answers another count.
  pub no_refusal : (why : Refusal) → PointWriteCall map_bytes hydrant work bytes (Err why) work' bytes' → ⊥
  no_refusal why c =
      let e = write_answer (write_as (hydrant_written (length work) (length bytes) full enough) c).0 in
      let z : ◌≡◌ {A = ℕ} 0 1 = cc in
      omega arith

  pub no_other_count : {n : ℕ} → PointWriteCall map_bytes hydrant work bytes (Ok n) work' bytes' → (n ≡ 17 → ⊥) → ⊥
  no_other_count c other = other (let e = write_answer (write_as (hydrant_written (length work) (length bytes) full enough) c).0 in cc)

  -- One that leaves the status byte of a line reference, puts the side where the orientation belongs, or measures the offset otherwise.
  pub no_other_status : {a : PointWriteAnswer} → PointWriteCall map_bytes hydrant work bytes a work' bytes' → get_or bytes' 0 0 ≡ 0x0B → ⊥
  no_other_status c e = let z : ◌≡◌ {A = ℕ} 0x0B 0x2B = sym e ∙ ap (λ (bs : List ℕ). get_or bs 0 0) (left c) in omega arith

  pub not_swapped : {a : PointWriteAnswer} → PointWriteCall map_bytes hydrant work bytes a work' bytes' →
      (get_or bytes' 7 0 ≡ 0x5B) × (get_or bytes' 14 0 ≡ 0x1B) → ⊥
  not_swapped c e = let z : ◌≡◌ {A = ℕ} 0x5B 0x1B = sym e.0 ∙ ap (λ (bs : List ℕ). get_or bs 7 0) (left c) in omega arith

  pub no_other_offset : {a : PointWriteAnswer} → PointWriteCall map_bytes hydrant work bytes a work' bytes' → (get_or bytes' 16 0 ≡ 0x3D → ⊥) → ⊥
  no_other_offset c other = other (ap (λ (bs : List ℕ). get_or bs 16 0) (left c))

  -- One that rounds the byte of the next hydrant down (W6).
  pub no_byte_rounded_down : {a : PointWriteAnswer} → PointWriteCall map_bytes next_hydrant work bytes a work' bytes' → get_or bytes' 16 0 ≡ 0x3D → ⊥
  unfolding point_bytes_after placed
  no_byte_rounded_down c e =
      let after = (write_as (next_written (length work) (length bytes) full enough) c).1 in
      let z : ◌≡◌ {A = ℕ} 0x3D 0x3E = sym e ∙ ap (λ (bs : List ℕ). get_or bs 16 0) after in
      omega arith

-- The reader, with a full work area and a line buffer that is not empty.
module _ (work lines : List ℕ) (full : work_length ≤ length work) (some : 1 ≤ length lines) {work' lines' : List ℕ} where
  told : {a : PointReadAnswer} → PointReadCall map_bytes hydrant_bytes work lines a work' lines' → a ≡ Ok (point_read 1 hydrant_span no_orientation right_side)
  told c = read_answer (read_as (hydrant_read (length work) (length lines) full some) c).0

  -- One that refuses what was written, such as one that takes lines only.
  pub read_no_refusal : (why : Refusal) → PointReadCall map_bytes hydrant_bytes work lines (Err why) work' lines' → ⊥
  read_no_refusal why c = let e = told c in let z : ◌≡◌ {A = ℕ} 0 1 = cc in omega arith

  -- One that answers another orientation or another side, or the one for the other.
  pub no_other_marks : {n orientation side : ℕ} {span : Span} →
      PointReadCall map_bytes hydrant_bytes work lines (Ok (point_read n span orientation side)) work' lines' → (orientation ≡ 0) × (side ≡ 1)
  no_other_marks c = let e = same_point (told c) in (e.2, e.3)

  -- One that hands back another line, or changes the rest of its buffer.
  pub no_other_line : {a : PointReadAnswer} → PointReadCall map_bytes hydrant_bytes work lines a work' lines' → lines' ≡ 2 ∷ drop 1 lines
  unfolding point_lines_after placed
  no_other_line c = (read_as (hydrant_read (length work) (length lines) full some) c).1

-- One that takes a point for one line only: over the top there are two.
pub not_one_line : (work lines : List ℕ) → work_length ≤ length work → 2 ≤ length lines → {work' lines' : List ℕ} {n orientation side : ℕ} {span : Span} →
    PointReadCall map_bytes top_point work lines (Ok (point_read n span orientation side)) work' lines' → n ≡ 2
not_one_line work lines full room c = (same_point (read_answer (read_as (over_the_top_read (length work) (length lines) full room) c).0)).0
