-- Wrong answers about leg tests that the writer's promise shuts out (W7): no call on the ridge or on the pentagon, whatever its work area and its byte buffer
-- hold, can be answered so.
use Prim.Native.Nat.{ℕ, ◌≤◌}
use mathlib.Core.Path.{◌≡◌, refl}
use mathlib.Core.List.{List}
use native.Mathlib.Omega.{arith}
use lib.ListN.{length}
use Rattle.model.specs.declared.Refusal.{Refusal}
use Rattle.model.specs.Refusal.{Refused, row, refusal_of}
use Rattle.model.specs.Work.{work_length}
use Rattle.model.specs.Outcome.{WriteOutcome, Writes}
use Rattle.model.specs.Call.{bytes_after, WriteAnswers, WriteCall}
use Rattle.model.proofs.CallsOnce.{refusal_once}
use Rattle.model.proofs.Cases.Computing.{computing}
use Rattle.model.proofs.Cases.Encoded.{encoded}
use Rattle.model.proofs.Cases.Ridge.{map_bytes, stretch}
use Rattle.model.proofs.Cases.RidgeCalls.{write_as, stretch_written, stretch_unfinished}
use Rattle.model.proofs.Cases.Pentagon.{pentagon, open_pentagon, ring_stretch, four_points, four_open, three_points, with_nine, open_with_nine, with_ten}
use Rattle.model.proofs.Cases.WrongWriters.{counted, no_refusal, no_bytes_where_refused}
use Rattle.model.proofs.Cases.Ridge as Ridge
use Rattle.model.specs.declared.Refusal.TheVariants as Why
use Rattle.std.specs.Prelude.{Err, Ok}
use Rattle.model.specs.Answer.{bytes_written, WriteAnswer}
use Rattle.model.proofs.Answers.{same_bytes}

-- ---- on the ridge

-- With tests for all three legs, or more.
module _ (tests : ℕ) (work bytes : List ℕ) (all : 3 ≤ tests) (full : work_length ≤ length work) (enough : 23 ≤ length bytes) {n made excess : ℕ}
    {work' bytes' : List ℕ} where
  told : WriteCall map_bytes (stretch 0) tests work bytes (Ok (bytes_written n made excess)) work' bytes' →
      ◌≡◌ {A = WriteAnswer} (Ok (bytes_written n made excess)) (Ok (bytes_written 23 3 0))
  told c = counted Ridge.three_points 3 0 (stretch_written (length work) (length bytes) full tests all enough) c

  -- A writer that answers more tests than there are legs, such as all that it was allowed, or fewer, such as those that it needed.
  pub no_other_tests : WriteCall map_bytes (stretch 0) tests work bytes (Ok (bytes_written n made excess)) work' bytes' → (made ≡ 3 → ⊥) → ⊥
  no_other_tests c other = other (same_bytes (told c)).1

  -- One that answers an excess, such as 1 over the two points of the untied stretch.
  pub no_other_excess : WriteCall map_bytes (stretch 0) tests work bytes (Ok (bytes_written n made excess)) work' bytes' → (excess ≡ 0 → ⊥) → ⊥
  no_other_excess c other = other (same_bytes (told c)).2

-- One that goes on asking for tests.
pub not_unfinished : (tests : ℕ) (work bytes : List ℕ) → 3 ≤ tests → work_length ≤ length work → 23 ≤ length bytes → {work' bytes' : List ℕ} →
    WriteCall map_bytes (stretch 0) tests work bytes (Err Why.Unfinished) work' bytes' → ⊥
not_unfinished tests work bytes all full enough c = no_refusal tests work bytes all full enough Why.Unfinished c

refused_so : {why : Refusal} {r : Refused} → WriteAnswers (Err why) (WriteOutcome.refused r) → refusal_of why ≡ r
refused_so WriteAnswers.refusal = refl

-- With two tests or fewer, whatever the byte buffer.
module _ (tests : ℕ) (work bytes : List ℕ) (few : tests ≤ 2) (full : work_length ≤ length work) where
  outcome : Writes map_bytes (stretch 0) tests (length work) (length bytes) (WriteOutcome.refused (row 26))
  outcome = stretch_unfinished (length work) (length bytes) full tests few

  -- A writer that makes more tests than it may, or that writes a leg that it has not tested: it would answer bytes.
  pub nothing_written : {n made excess : ℕ} {work' bytes' : List ℕ} →
      WriteCall map_bytes (stretch 0) tests work bytes (Ok (bytes_written n made excess)) work' bytes' → ⊥
  nothing_written c = no_bytes_where_refused (row 26) outcome c

  -- One that answers another refusal, such as 10, for want of a reference over the legs tested, or 11.
  pub only_unfinished : {why : Refusal} {work' bytes' : List ℕ} → WriteCall map_bytes (stretch 0) tests work bytes (Err why) work' bytes' →
      (why ≡ Why.Unfinished → ⊥) → ⊥
  unfolding computing
  only_unfinished {why} c other = other (refusal_once why Why.Unfinished (refused_so (write_as outcome c).0))

  pub not_ten : {work' bytes' : List ℕ} → WriteCall map_bytes (stretch 0) tests work bytes (Err Why.NoChoice) work' bytes' → ⊥
  not_ten c = only_unfinished c λ e. let z : ◌≡◌ {A = ℕ} 0 1 = cc in omega arith

  -- One that leaves something in the buffer.
  pub left_alone : {why : Refusal} {work' bytes' : List ℕ} → WriteCall map_bytes (stretch 0) tests work bytes (Err why) work' bytes' → bytes' ≡ bytes
  unfolding bytes_after
  left_alone c = (write_as outcome c).1

-- ---- on the pentagon

module _ (work bytes : List ℕ) (full : work_length ≤ length work) (enough : 30 ≤ length bytes) {n made excess : ℕ} {work' bytes' : List ℕ} where
  -- With nine tests: a writer that gives no excess, since it knows of no better choice, or gives three points, since it has made the tenth test.
  pub no_other_nine : WriteCall (encoded pentagon) ring_stretch 9 work bytes (Ok (bytes_written n made excess)) work' bytes' →
      ((n ≡ 30) × (made ≡ 9) × (excess ≡ 1) → ⊥) → ⊥
  no_other_nine c other = other (same_bytes (counted four_points 9 1 (with_nine (length work) (length bytes) full enough) c))

  -- One that looks at the differences of a leg that is not tested: it would find the excess 0.
  pub no_true_excess : WriteCall (encoded open_pentagon) ring_stretch 9 work bytes (Ok (bytes_written n made excess)) work' bytes' → (excess ≡ 1 → ⊥) → ⊥
  no_true_excess c other = other (same_bytes (counted four_open 9 1 (open_with_nine (length work) (length bytes) full enough) c)).2

  -- With ten tests or more: one that keeps the four points.
  pub no_four_points : (tests : ℕ) → 10 ≤ tests → WriteCall (encoded pentagon) ring_stretch tests work bytes (Ok (bytes_written n made excess)) work' bytes' →
      ((n ≡ 23) × (made ≡ 10) × (excess ≡ 0) → ⊥) → ⊥
  no_four_points tests all c other =
      other (same_bytes (counted three_points 10 0 (with_ten (length work) (length bytes) full tests all (omega (arith, enough))) c))
