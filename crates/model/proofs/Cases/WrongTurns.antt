-- Wrong answers on maps with banned turns that the promises shut out (W1): no call, whatever its work area and its buffer hold, can be answered so.
use Prim.Native.Nat.{ℕ, ◌≤◌}
use mathlib.Core.Path.{◌≡◌, refl}
use mathlib.Core.List.{List, [], ◌∷◌}
use native.Mathlib.Omega.{arith}
use lib.ListN.{length}
use borrow.Author.Tests.{le-ltb}
use Rattle.model.specs.declared.Span.{Span}
use Rattle.model.specs.Answer.{ReadAnswer, bytes_written, lines_read}
use Rattle.model.specs.Refusal.{row}
use Rattle.model.specs.Reference.{absent, bytes_of}
use Rattle.model.specs.Span.{unflagged}
use Rattle.model.specs.Stretch.{stretch_of}
use Rattle.model.specs.Work.{work_length}
use Rattle.model.specs.Outcome.{LegsRead, ReadOutcome, read, ReadEnd, ReadOn, Reads, WriteOutcome, Writes}
use Rattle.model.specs.Call.{ReadCall, WriteCall}
use Rattle.model.proofs.Outcomes.{on_reads}
use Rattle.model.proofs.Cases.Computing.{computing}
use Rattle.model.proofs.Cases.Encoded.{encoded, encoding}
use Rattle.model.proofs.Cases.Tie.{none}
use Rattle.model.proofs.Cases.Ridge.{two_points, tie}
use Rattle.model.proofs.Cases.WrongReaders.{counted, no_list_where_refused}
use Rattle.model.proofs.Cases.WrongWriters.{no_bytes_where_refused}
use Rattle.model.proofs.Cases.Bans.{barred, northward, tie_north, meeting, meeting_refused}
use Rattle.std.specs.Prelude.{Ok}

-- The outcomes, with a full work area.
module _ (work room : ℕ) (full : work_length ≤ work) where
  joint_refused : Reads (encoded barred) (bytes_of (meeting absent)) work room (ReadOutcome.refused (row 22))
  unfolding computing encoding
  joint_refused = on_reads (encoded barred) (bytes_of (meeting absent)) work room _ full refl refl (meeting_refused absent room)

  -- Two points where the turn into line 1 is banned.
  north_read : 3 ≤ room → Reads (encoded northward) two_points work room (read (0 ∷ 2 ∷ 3 ∷ []) none none)
  unfolding computing encoding
  north_read h =
      on_reads (encoded northward) two_points work room _ full refl refl
      (ReadOn.every_leg {legs = tie ∷ []} refl (LegsRead.only tie_north LegsRead.none)
      (ReadEnd.accepted (record { pos_read = unflagged; neg_read = unflagged }) (omega arith) (omega arith)))

  skipped_refused : (tests : ℕ) → Writes (encoded barred) (stretch_of (0 ∷ 2 ∷ 3 ∷ []) 10_000 0) tests work room (WriteOutcome.refused (row 21))
  unfolding computing encoding
  skipped_refused tests = rw (le-ltb work work_length full) refl

module _ (work lines : List ℕ) (full : work_length ≤ length work) {work' lines' : List ℕ} where
  -- A reader that does not ask where two legs meet.
  pub no_banned_joint : {n : ℕ} {pos neg : Span} → ReadCall (encoded barred) (bytes_of (meeting absent)) work lines (Ok (lines_read n pos neg)) work' lines' → ⊥
  no_banned_joint c = no_list_where_refused (row 22) (joint_refused (length work) (length lines) full) c

  -- One that goes on only from the nearest line of a node, or asks no bans: it would take lines 0, 1, or find a tie.
  pub no_other_way : {a : ReadAnswer} → 3 ≤ length lines → ReadCall (encoded northward) two_points work lines a work' lines' →
      (a ≡ Ok (lines_read 3 none none) → ⊥) → ⊥
  no_other_way enough c other = other (counted (0 ∷ 2 ∷ 3 ∷ []) none none (north_read (length work) (length lines) full enough) c)

-- A writer that looks for bans in what an offset leaves: it would write lines 2, 3.
pub no_skipped_ban : (tests : ℕ) (work bytes : List ℕ) {work' bytes' : List ℕ} {n made excess : ℕ} → work_length ≤ length work →
    WriteCall (encoded barred) (stretch_of (0 ∷ 2 ∷ 3 ∷ []) 10_000 0) tests work bytes (Ok (bytes_written n made excess)) work' bytes' → ⊥
no_skipped_ban tests work bytes full c = no_bytes_where_refused (row 21) (skipped_refused (length work) (length bytes) full tests) c
