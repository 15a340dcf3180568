-- Wrong answers of a writer that its promise shuts out: no call on the ridge, whatever its work area and its byte buffer hold, can be answered so.
use Prim.Native.Nat.{ℕ, ◌≤◌}
use mathlib.Core.Path.{◌≡◌, refl, sym, ap}
use mathlib.Core.List.{List, ◌++◌}
use native.Mathlib.Omega.{arith}
use lib.ListN.{length, drop, get_or}
use Rattle.model.specs.declared.Refusal.{Refusal}
use Rattle.model.specs.Answer.{WriteAnswer, bytes_written}
use Rattle.model.specs.Refusal.{Refused}
use Rattle.model.specs.Stretch.{Stretch}
use Rattle.model.specs.Work.{work_length, placed}
use Rattle.model.specs.Outcome.{written, WriteOutcome, Writes}
use Rattle.model.specs.Call.{bytes_after, WriteAnswers, WriteCall}
use Rattle.model.proofs.Cases.Ridge.{map_bytes, three_points, three_from5000, stretch}
use Rattle.model.proofs.Cases.RidgeCalls.{write_as, write_answer, stretch_written, stretch_written_from_5000}
use Rattle.model.specs.declared.Refusal.TheVariants as Why
use Rattle.std.specs.Prelude.{Err, Ok}
use Rattle.model.proofs.Answers.{same_bytes}

-- Where these bytes are the outcome, every call answers their count, the tests made and the excess, and leaves the bytes in its buffer.
module _ (bs : List ℕ) (made excess : ℕ) {mb work bytes work' bytes' : List ℕ} {s : Stretch} {tests : ℕ} {a : WriteAnswer} where
  pub counted : Writes mb s tests (length work) (length bytes) (written bs made excess) → WriteCall mb s tests work bytes a work' bytes' →
      a ≡ Ok (bytes_written (length bs) made excess)
  counted h c = write_answer (write_as h c).0

  pub left : Writes mb s tests (length work) (length bytes) (written bs made excess) → WriteCall mb s tests work bytes a work' bytes' →
      bytes' ≡ bs ++ drop (length bs) bytes
  unfolding bytes_after placed
  left h c = (write_as h c).1

refused_or_written : {why : Refusal} {n made excess : ℕ} → Err why ≡ Ok (bytes_written n made excess) → ⊥
refused_or_written e = let z : ◌≡◌ {A = ℕ} 0 1 = cc in omega arith

-- Where a refusal is the outcome, no call answers a count.
refused_answer : {a : WriteAnswer} {r : Refused} → WriteAnswers a (WriteOutcome.refused r) → (why : Refusal) × (a ≡ Err why)
refused_answer (WriteAnswers.refusal {why = why}) = (why, refl)

pub no_bytes_where_refused : (r : Refused) {mb work bytes work' bytes' : List ℕ} {s : Stretch} {tests n made excess : ℕ} →
    Writes mb s tests (length work) (length bytes) (WriteOutcome.refused r) → WriteCall mb s tests work bytes (Ok (bytes_written n made excess)) work' bytes' → ⊥
no_bytes_where_refused r h c = refused_or_written (sym (refused_answer (write_as h c).0).1)

-- Calls with a full work area, tests for all legs or more, and a byte buffer that is just long enough, or longer.
module _ (tests : ℕ) (work bytes : List ℕ) (all : 3 ≤ tests) (full : work_length ≤ length work) (enough : 23 ≤ length bytes) where
  outcome : Writes map_bytes (stretch 0) tests (length work) (length bytes) (written three_points 3 0)
  outcome = stretch_written (length work) (length bytes) full tests all enough

  -- A writer that refuses the stretch, for whatever reason.
  pub no_refusal : (why : Refusal) {work' bytes' : List ℕ} → WriteCall map_bytes (stretch 0) tests work bytes (Err why) work' bytes' → ⊥
  no_refusal why c = refused_or_written (counted three_points 3 0 outcome c)

  -- "A writer that says 10 to every stretch."
  pub not_ten : {work' bytes' : List ℕ} → WriteCall map_bytes (stretch 0) tests work bytes (Err Why.NoChoice) work' bytes' → ⊥
  not_ten c = no_refusal Why.NoChoice c

  -- "One that gives 11 before measuring the buffer."
  pub not_eleven : {work' bytes' : List ℕ} → WriteCall map_bytes (stretch 0) tests work bytes (Err Why.BytesShort) work' bytes' → ⊥
  not_eleven c = no_refusal Why.BytesShort c

  -- "One that answers a made-up count of .. bytes."
  pub no_other_count : {n made excess : ℕ} {work' bytes' : List ℕ} →
      WriteCall map_bytes (stretch 0) tests work bytes (Ok (bytes_written n made excess)) work' bytes' → (n ≡ 23 → ⊥) → ⊥
  no_other_count c other = other (same_bytes (counted three_points 3 0 outcome c)).0

  -- One that writes other bytes, or changes the rest of its buffer.
  pub no_other_bytes : {a : WriteAnswer} {work' bytes' : List ℕ} → WriteCall map_bytes (stretch 0) tests work bytes a work' bytes' →
      (bytes' ≡ three_points ++ drop 23 bytes → ⊥) → ⊥
  no_other_bytes c other = other (left three_points 3 0 outcome c)

  -- "Or a count with nothing written": a buffer that does not start with the status byte does not stay as it is.
  pub not_unwritten : {a : WriteAnswer} {work' : List ℕ} → WriteCall map_bytes (stretch 0) tests work bytes a work' bytes → (get_or bytes 0 0 ≡ 0x0B → ⊥) → ⊥
  not_unwritten c other = other (ap (λ (bs : List ℕ). get_or bs 0 0) (left three_points 3 0 outcome c))

-- With positive offset 500: a writer that flags the other offset, or gives another byte than 80.
pub no_other_offset : (tests : ℕ) (work bytes : List ℕ) {work' bytes' : List ℕ} {a : WriteAnswer} → 3 ≤ tests → work_length ≤ length work →
    24 ≤ length bytes → WriteCall map_bytes (stretch 5_000) tests work bytes a work' bytes' → ((get_or bytes' 22 0 ≡ 0x58) × (get_or bytes' 23 0 ≡ 0x80) → ⊥) → ⊥
no_other_offset tests work bytes all full enough c other =
    let e = left three_from5000 3 0 (stretch_written_from_5000 (length work) (length bytes) full tests all enough) c in
    other (ap (λ (bs : List ℕ). get_or bs 22 0) e, ap (λ (bs : List ℕ). get_or bs 23 0) e)
