-- Answers to the definitions' questions: an answer of one part is the answer of the next, and a refusal leaves the buffer.
use Prim.Native.Nat.{ℕ, ◌≤◌, ◌<◌}
use mathlib.Core.Path.{◌≡◌, refl, sym, ap, subst, ◌∙◌}
use mathlib.Core.Logic.{inl, inr}
use native.Mathlib.Omega.{arith}
use lib.ListN.{length}
use Rattle.model.specs.Map.{Map, decode}
use Rattle.model.specs.Work.{work_length, cleared}
use Rattle.model.specs.Opening.{OnMap, Opens}
use Rattle.model.proofs.Cleared.{cleared_short}
use Rattle.model.proofs.Opened.{area_full}
use mathlib.Core.List.{List}
use Rattle.model.specs.declared.Refusal.{Refusal}
use Rattle.model.specs.Refusal.{Refused, row, refusal_of}
use Rattle.model.specs.Answer.{WriteAnswer, PointWriteAnswer, bytes_written}
use Rattle.model.specs.Outcome.{ReadOutcome, WriteOutcome, written}
use Rattle.model.specs.PointAlong.{PointWriteOutcome, PointWriteAnswers}
use Rattle.model.specs.Call.{lines_after, bytes_after, ReadAnswers, WriteAnswers, Answered, Called, ReadAnswered, WriteAnswered}
use Rattle.model.proofs.Opened as Opened
use Rattle.std.specs.Prelude.{Result, Err, Ok}
use Rattle.std.specs.Result.{IsErrAnd}
use Rattle.std.proofs.lemmas.Result.{err_from_is_err_and}
use Rattle.std.proofs.lemmas.Bool.{cases_lt}
use Rattle.model.proofs.Answers.{same_bytes}

pub answered_by : {Outcome Answer : Type 0} {Tells : Answer → Outcome → Type 0} {left : Outcome → List ℕ → List ℕ} {Asks Asks' : Outcome → Type 0}
    {before after : List ℕ} {a : Answer} → ((o : Outcome) → Asks o → Asks' o) → Answered Tells left Asks before after a →
    Answered Tells left Asks' before after a
answered_by f d = record { outcome = d.outcome; asked = f d.outcome d.asked; answers = d.answers; buffer_after = d.buffer_after }

-- What the exit of a `?` returns: the refusal, passed on as it is.
pub passed_on : {T : Type 0} {why : Refusal} (r : Result T Refusal) → IsErrAnd r (λ e. e ≡ why) → r ≡ Err why
passed_on r h = let p = err_from_is_err_and r h in p.1 ∙ ap (λ (e : Refusal). Err e) p.2

pub refused_read : {Asks : ReadOutcome → Type 0} {lines : List ℕ} (r : Refusal) → Asks (ReadOutcome.refused (refusal_of r)) →
    ReadAnswered Asks lines lines (Err r)
unfolding lines_after
refused_read r h = record { outcome = ReadOutcome.refused (refusal_of r); asked = h; answers = ReadAnswers.refusal; buffer_after = refl }

pub refused_write : {Asks : WriteOutcome → Type 0} {bytes : List ℕ} (r : Refusal) → Asks (WriteOutcome.refused (refusal_of r)) →
    WriteAnswered Asks bytes bytes (Err r)
unfolding bytes_after
refused_write r h = record { outcome = WriteOutcome.refused (refusal_of r); asked = h; answers = WriteAnswers.refusal; buffer_after = refl }

-- ---- an answer of so many bytes tells its outcome

pub told_written : {a : WriteAnswer} {o : WriteOutcome} {count made excess : ℕ} → WriteAnswers a o → a ≡ Ok (bytes_written count made excess) →
    (bs : List ℕ) × (o ≡ written bs made excess) × (length bs ≡ count)
told_written {count = count} {made = made} {excess = excess} (WriteAnswers.bytes {bs = bs} {made = made'} {excess = excess'}) e =
    let (size, same, over) = same_bytes e in
    (bs, rw (same, over) refl, size)
told_written WriteAnswers.refusal e = absurd (let z : ◌≡◌ {A = ℕ} 0 1 = cc in omega arith)

pub told_point : {a : PointWriteAnswer} {o : PointWriteOutcome} {count : ℕ} → PointWriteAnswers a o → a ≡ Ok count →
    (bs : List ℕ) × (o ≡ PointWriteOutcome.written bs) × (length bs ≡ count)
told_point {count = count} (PointWriteAnswers.bytes {bs = bs}) e = let size : length bs ≡ count = cc in (bs, refl, size)
told_point PointWriteAnswers.refusal e = absurd (let z : ◌≡◌ {A = ℕ} 0 1 = cc in omega arith)

-- ---- the whole call, from the answer on the map

module _ {Outcome Answer : Type 0} {Tells : Answer → Outcome → Type 0} {left : Outcome → List ℕ → List ℕ} (refused : Refused → Outcome)
    (Asks : Map → Outcome → Type 0) (mb : List ℕ) {a : Answer} where
  pub area_short : {buffer work : List ℕ} → length work < work_length → Answered Tells left (λ o. o ≡ refused (row 1)) buffer buffer a →
      Called Tells left (Opens refused Asks mb (length work)) work work buffer buffer a
  area_short {work = work} h d =
      record {
        answered = answered_by (λ o e. subst (Opens refused Asks mb (length work)) (sym e) (Opened.area_short refused Asks mb (length work) h)) d;
        work_after = cleared_short work h;
      }

  pub called : {before after work work' : List ℕ} → work_length ≤ length work → Answered Tells left (OnMap refused Asks (decode mb)) before after a →
      work' ≡ cleared work → Called Tells left (Opens refused Asks mb (length work)) work work' before after a
  called {work = work} h d e = record { answered = answered_by (λ o p. area_full refused Asks mb (length work) o h p) d; work_after = e }

-- The whole call, from what is ensured of a step on its part of the work area.
pub stepped : {Outcome Answer : Type 0} {Tells : Answer → Outcome → Type 0} {left : Outcome → List ℕ → List ℕ} (refused : Refused → Outcome)
    (Asks : Map → Outcome → Type 0) (mb : List ℕ) {a short : Answer} {before after work work' : List ℕ} →
    Answered Tells left (λ o. o ≡ refused (row 1)) before before short → (length work < work_length → (a ≡ short) × (after ≡ before)) →
    (work_length ≤ length work → Answered Tells left (OnMap refused Asks (decode mb)) before after a) → work' ≡ cleared work →
    Called Tells left (Opens refused Asks mb (length work)) work work' before after a
stepped refused Asks mb {work = work} d small ran e =
    elim (cases_lt (length work) work_length) [
      | inl h ↦ let s = small h in rw (s.0, s.1, e, ← cleared_short work h) (area_short refused Asks mb h d)
      | inr h ↦ called refused Asks mb h (ran h) e
    ]
