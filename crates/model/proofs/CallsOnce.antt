-- A whole call is told by what it is given: its answer, the work area and the buffer after it. A promise that a call is one of the definitions' pins all three.
-- So "every answer, refusal and buffer stays what it was" (W4) where a program changes and its promise does not.
use Prim.Native.Nat.{ℕ}
use mathlib.Core.Path.{◌≡◌, refl, sym, ap, ◌∙◌}
use mathlib.Core.Bool.{cond}
use mathlib.Core.List.{List}
use native.Mathlib.Omega.{arith}
use lib.ListN.{length}
use lib.Dec.{eqb}
use Rattle.model.specs.declared.Refusal.{Refusal}
use Rattle.model.specs.declared.Refusal.TheVariants.{WorkAreaShort, MapNumber, MapCount, MapCoordinate, MapLine, EqualCodes, StretchLines, StretchGap, StretchOffsets, NoChoice, BytesShort, ReferenceLength, ReferenceStatus, ReferenceBits, ReferenceFlags, NoNode, NoReading, SeveralReadings, NoOffset, LinesShort, StretchBan, JoinedBan, MapBan, MapStep, PointMarks, Unfinished, MessageOrder, MessageFull, OtherMap}
use Rattle.model.specs.Answer.{ReadAnswer, WriteAnswer, PointReadAnswer, PointWriteAnswer}
use Rattle.model.specs.Refusal.{number_of, place_of, refusal_of}
use Rattle.model.specs.Stretch.{Stretch}
use Rattle.model.specs.Work.{work_length}
use Rattle.model.specs.Outcome.{ReadOutcome, WriteOutcome}
use Rattle.model.specs.Call.{ReadAnswers, WriteAnswers, Answered, Called, ReadCall, WriteCall}
use Rattle.model.specs.Host.{host_stretch, host_room, HostRead, host_read, HostReadCall, HostWritten, host_written, HostWriteCall, HostPoint, host_point, HostPointReadCall, HostPointWritten, host_point_written, HostPointWriteCall}
use Rattle.model.specs.PointAlong.{GivenPoint, PointReadOutcome, PointReadAnswers, PointReadCall, PointWriteOutcome, PointWriteAnswers, PointWriteCall}
use Rattle.model.proofs.Once.{reads_once, writes_once}
use Rattle.model.proofs.PointReading.{point_reads_once}
use Rattle.model.proofs.PointWriting.{point_writes_once}

-- ---- whatever is asked: where the question has one outcome at most, and an outcome one answer

module _ {Outcome Answer : Type 0} {Tells : Answer → Outcome → Type 0} {left : Outcome → List ℕ → List ℕ} {Asks : Outcome → Type 0}
    (once : (o o' : Outcome) → Asks o → Asks o' → o ≡ o') {a b : Answer} (told : (o o' : Outcome) → Tells a o → Tells b o' → o ≡ o' → a ≡ b)
    {before after after' : List ℕ} where
  pub answered_once : Answered Tells left Asks before after a → Answered Tells left Asks before after' b → (a ≡ b) × (after ≡ after')
  answered_once c d =
      let same = once c.outcome d.outcome c.asked d.asked in (
        told c.outcome d.outcome c.answers d.answers same,
        c.buffer_after ∙ ap (λ (o : Outcome). left o before) same ∙ sym d.buffer_after,
      )

  pub called_once : {work work' work'' : List ℕ} → Called Tells left Asks work work' before after a → Called Tells left Asks work work'' before after' b →
      (a ≡ b) × (work' ≡ work'') × (after ≡ after')
  called_once c d =
      let same = answered_once c.answered d.answered in
      (same.0, c.work_after ∙ sym d.work_after, same.1)

-- ---- an outcome has one answer

-- A case of the enum, from its number and its place.
unfoldable case_of : ℕ → ℕ → Refusal
case_of n k =
    cond (eqb n 1) WorkAreaShort (cond (eqb n 2) MapNumber (cond (eqb n 3) MapCount (cond (eqb n 4) MapCoordinate (cond (eqb n 5) MapLine
    (cond (eqb n 6) EqualCodes (cond (eqb n 7) StretchLines (cond (eqb n 8) StretchGap (cond (eqb n 9) StretchOffsets (cond (eqb n 10) NoChoice
    (cond (eqb n 11) BytesShort (cond (eqb n 12) ReferenceLength (cond (eqb n 13) ReferenceStatus (cond (eqb n 14) ReferenceBits
    (cond (eqb n 15) ReferenceFlags (cond (eqb n 16) (NoNode k) (cond (eqb n 17) (NoReading k) (cond (eqb n 18) (SeveralReadings k)
    (cond (eqb n 19) NoOffset (cond (eqb n 20) LinesShort (cond (eqb n 21) StretchBan (cond (eqb n 22) JoinedBan
    (cond (eqb n 23) MapBan (cond (eqb n 24) MapStep (cond (eqb n 25) PointMarks (cond (eqb n 26) Unfinished
    (cond (eqb n 27) MessageOrder (cond (eqb n 28) MessageFull OtherMap)))))))))))))))))))))))))))

case_back : (why : Refusal) → case_of (number_of (refusal_of why)) (place_of (refusal_of why)) ≡ why
unfolding case_of number_of place_of refusal_of
case_back WorkAreaShort = refl
case_back MapNumber = refl
case_back MapCount = refl
case_back MapCoordinate = refl
case_back MapLine = refl
case_back EqualCodes = refl
case_back StretchLines = refl
case_back StretchGap = refl
case_back StretchOffsets = refl
case_back NoChoice = refl
case_back BytesShort = refl
case_back ReferenceLength = refl
case_back ReferenceStatus = refl
case_back ReferenceBits = refl
case_back ReferenceFlags = refl
case_back (NoNode k) = refl
case_back (NoReading k) = refl
case_back (SeveralReadings k) = refl
case_back NoOffset = refl
case_back LinesShort = refl
case_back StretchBan = refl
case_back JoinedBan = refl
case_back MapBan = refl
case_back MapStep = refl
case_back PointMarks = refl
case_back Unfinished = refl
case_back MessageOrder = refl
case_back MessageFull = refl
case_back OtherMap = refl

-- Two cases of the enum are the same row of the table only where they are the same case.
pub refusal_once : (a b : Refusal) → refusal_of a ≡ refusal_of b → a ≡ b
refusal_once a b e = sym (case_back a) ∙ ap (λ r. case_of (number_of r) (place_of r)) e ∙ case_back b

pub read_told : {a b : ReadAnswer} {o o' : ReadOutcome} → ReadAnswers a o → ReadAnswers b o' → o ≡ o' → a ≡ b
read_told ReadAnswers.lines ReadAnswers.lines e = cc
read_told ReadAnswers.lines ReadAnswers.refusal e = absurd (let z : ◌≡◌ {A = ℕ} 0 1 = cc in omega arith)
read_told ReadAnswers.refusal ReadAnswers.lines e = absurd (let z : ◌≡◌ {A = ℕ} 0 1 = cc in omega arith)
read_told (ReadAnswers.refusal {why = v}) (ReadAnswers.refusal {why = w}) e = let same = refusal_once v w cc in cc

pub write_told : {a b : WriteAnswer} {o o' : WriteOutcome} → WriteAnswers a o → WriteAnswers b o' → o ≡ o' → a ≡ b
write_told WriteAnswers.bytes WriteAnswers.bytes e = cc
write_told WriteAnswers.bytes WriteAnswers.refusal e = absurd (let z : ◌≡◌ {A = ℕ} 0 1 = cc in omega arith)
write_told WriteAnswers.refusal WriteAnswers.bytes e = absurd (let z : ◌≡◌ {A = ℕ} 0 1 = cc in omega arith)
write_told (WriteAnswers.refusal {why = v}) (WriteAnswers.refusal {why = w}) e = let same = refusal_once v w cc in cc

pub point_told : {a b : PointReadAnswer} {o o' : PointReadOutcome} → PointReadAnswers a o → PointReadAnswers b o' → o ≡ o' → a ≡ b
point_told PointReadAnswers.lines PointReadAnswers.lines e = cc
point_told PointReadAnswers.lines PointReadAnswers.refusal e = absurd (let z : ◌≡◌ {A = ℕ} 0 1 = cc in omega arith)
point_told PointReadAnswers.refusal PointReadAnswers.lines e = absurd (let z : ◌≡◌ {A = ℕ} 0 1 = cc in omega arith)
point_told (PointReadAnswers.refusal {why = v}) (PointReadAnswers.refusal {why = w}) e = let same = refusal_once v w cc in cc

pub point_write_told : {a b : PointWriteAnswer} {o o' : PointWriteOutcome} → PointWriteAnswers a o → PointWriteAnswers b o' → o ≡ o' → a ≡ b
point_write_told PointWriteAnswers.bytes PointWriteAnswers.bytes e = cc
point_write_told PointWriteAnswers.bytes PointWriteAnswers.refusal e = absurd (let z : ◌≡◌ {A = ℕ} 0 1 = cc in omega arith)
point_write_told PointWriteAnswers.refusal PointWriteAnswers.bytes e = absurd (let z : ◌≡◌ {A = ℕ} 0 1 = cc in omega arith)
point_write_told (PointWriteAnswers.refusal {why = v}) (PointWriteAnswers.refusal {why = w}) e = let same = refusal_once v w cc in cc

-- What a host is answered is a function of the outcome.
pub given_told : {Outcome Given : Type 0} (f : Outcome → Given) {a b : Given} (o o' : Outcome) → a ≡ f o → b ≡ f o' → o ≡ o' → a ≡ b
given_told f o o' e e' same = e ∙ ap f same ∙ sym e'

-- ---- the calls

pub read_call_once : {mb ref work before : List ℕ} {a b : ReadAnswer} {work' work'' after after' : List ℕ} → ReadCall mb ref work before a work' after →
    ReadCall mb ref work before b work'' after' → (a ≡ b) × (work' ≡ work'') × (after ≡ after')
read_call_once {mb} {ref} {work} {before} c d =
    called_once (λ o o'. reads_once mb ref (length before) {o = o} {o' = o'} (length work)) (λ o o'. read_told {o = o} {o' = o'}) c.called d.called

pub write_call_once : {mb : List ℕ} {s : Stretch} {tests : ℕ} {work before : List ℕ} {a b : WriteAnswer} {work' work'' after after' : List ℕ} →
    WriteCall mb s tests work before a work' after → WriteCall mb s tests work before b work'' after' → (a ≡ b) × (work' ≡ work'') × (after ≡ after')
write_call_once {mb} {s} {tests} {work} {before} c d =
    called_once (λ o o'. writes_once mb s tests (length before) {o = o} {o' = o'} (length work)) (λ o o'. write_told {o = o} {o' = o'}) c.called d.called

pub host_read_once : {mb ref before : List ℕ} {a b : HostRead} {after after' : List ℕ} → HostReadCall mb ref before a after →
    HostReadCall mb ref before b after' → (a ≡ b) × (after ≡ after')
host_read_once {mb} {ref} {before} c d =
    answered_once (λ o o'. reads_once mb ref (host_room (length before)) {o = o} {o' = o'} work_length) (given_told host_read) c.answered d.answered

pub host_write_once : {mb stretch : List ℕ} {pos neg tests : ℕ} {before : List ℕ} {a b : HostWritten} {after after' : List ℕ} →
    HostWriteCall mb stretch pos neg tests before a after → HostWriteCall mb stretch pos neg tests before b after' → (a ≡ b) × (after ≡ after')
host_write_once {mb} {stretch} {pos} {neg} {tests} {before} c d =
    answered_once (λ o o'. writes_once mb (host_stretch stretch pos neg) tests (length before) {o = o} {o' = o'} work_length) (given_told host_written)
    c.answered d.answered

-- ---- the calls with points (W5)

pub point_read_call_once : {mb ref work before : List ℕ} {a b : PointReadAnswer} {work' work'' after after' : List ℕ} →
    PointReadCall mb ref work before a work' after → PointReadCall mb ref work before b work'' after' → (a ≡ b) × (work' ≡ work'') × (after ≡ after')
point_read_call_once {mb} {ref} {work} {before} c d =
    called_once (λ o o'. point_reads_once mb ref (length before) {o = o} {o' = o'} (length work)) (λ o o'. point_told {o = o} {o' = o'}) c.called d.called

pub point_write_call_once : {mb : List ℕ} {p : GivenPoint} {work before : List ℕ} {a b : PointWriteAnswer} {work' work'' after after' : List ℕ} →
    PointWriteCall mb p work before a work' after → PointWriteCall mb p work before b work'' after' → (a ≡ b) × (work' ≡ work'') × (after ≡ after')
point_write_call_once {mb} {p} {work} {before} c d =
    called_once (λ o o'. point_writes_once mb p (length before) {o = o} {o' = o'} (length work)) (λ o o'. point_write_told {o = o} {o' = o'}) c.called
    d.called

pub host_point_read_once : {mb ref before : List ℕ} {a b : HostPoint} {after after' : List ℕ} → HostPointReadCall mb ref before a after →
    HostPointReadCall mb ref before b after' → (a ≡ b) × (after ≡ after')
host_point_read_once {mb} {ref} {before} c d =
    answered_once (λ o o'. point_reads_once mb ref (host_room (length before)) {o = o} {o' = o'} work_length) (given_told host_point) c.answered d.answered

pub host_point_write_once : {mb : List ℕ} {p : GivenPoint} {before : List ℕ} {a b : HostPointWritten} {after after' : List ℕ} →
    HostPointWriteCall mb p before a after → HostPointWriteCall mb p before b after' → (a ≡ b) × (after ≡ after')
host_point_write_once {mb} {p} {before} c d =
    answered_once (λ o o'. point_writes_once mb p (length before) {o = o} {o' = o'} work_length) (given_told host_point_written) c.answered d.answered
