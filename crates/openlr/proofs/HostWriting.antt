-- A host's calls of the writer. More than 65 line numbers of a stretch say no more than its first 65: it is refused for its length alone.
use Prim.Native.Nat.{ℕ, ◌≤◌, ◌<◌}
use mathlib.Core.Path.{◌≡◌, refl, sym, ap, subst, ◌∙◌}
use mathlib.Core.Bool.{Bool, true, false}
use mathlib.Core.List.{List}
use native.Mathlib.Omega.{arith}
use lib.ListN.{length, take}
use lib.Seq.{take_all, length-take-le}
use lib.Dec.{ltb}
use borrow.Author.Tests.{ltb-true, ltb-false, lt-ltb, ne_eqb}
use Rattle.model.proofs.Answering.{told_written}
use Rattle.model.proofs.Opened.{opens_by}
use Rattle.model.specs.declared.Refusal.{Refusal}
use Rattle.std.specs.Prelude.{Ok, Err, IfOk}
use Rattle.model.specs.declared.WrittenBytes.{WrittenBytes}
use Rattle.model.specs.Answer.{WriteAnswer}
use Rattle.model.specs.Map.{Map}
use Rattle.model.specs.Refusal.{row, number_of, refusal_of}
use Rattle.model.specs.Stretch.{Stretch, StretchAnswer, check_stretch, greatest_stretch, stretch_of}
use Rattle.model.specs.Outcome.{WriteOutcome, written, WriteStretch, Writes}
use Rattle.model.specs.Work.{work_length}
use Rattle.model.specs.Call.{bytes_after, WriteAnswers, bytes, refusal, WriteAnswered}
use Rattle.model.specs.Host.{host_stretch, HostWritten, host_written, host_bytes_after, HostWriteCall}
use Rattle.model.specs.Reference.{longest_reference}
use Rattle.model.proofs.Demand3.{written_bytes}
use Rattle.openlr.specs.Host.{stretch_lines}

-- ---- long stretches

over_long : (m : Map) (s : Stretch) → greatest_stretch < length s.lines → check_stretch m s ≡ StretchAnswer.refused (row 7)
unfolding check_stretch
over_long m s long = rw (ne_eqb (length s.lines) 0 (λ e. absurd (omega arith)), lt-ltb greatest_stretch (length s.lines) long) refl

first_65 : (m : Map) (ls : List ℕ) (pos neg : ℕ) → check_stretch m (stretch_of (take 65 ls) pos neg) ≡ check_stretch m (stretch_of ls pos neg)
first_65 m ls pos neg = go (ltb 65 (length ls)) refl
  where
    go : (b : Bool) → ltb 65 (length ls) ≡ b → check_stretch m (stretch_of (take 65 ls) pos neg) ≡ check_stretch m (stretch_of ls pos neg)
    go true e =
        let long = ltb-true 65 (length ls) e in
        over_long m (stretch_of (take 65 ls) pos neg) (omega (arith, length-take-le 65 ls (omega arith))) ∙ sym (over_long m (stretch_of ls pos neg) (omega arith))
    go false e = ap (λ (l : List ℕ). check_stretch m (stretch_of l pos neg)) (take_all 65 ls (ltb-false 65 (length ls) e))

-- The line numbers taken from a host's bytes stand for its stretch.
pub stretch_stands : (mb stretch ns : List ℕ) (pos neg tests work room : ℕ) (o : WriteOutcome) → ns ≡ take 65 (stretch_lines stretch) →
    Writes mb (stretch_of ns pos neg) tests work room o → Writes mb (host_stretch stretch pos neg) tests work room o
unfolding host_stretch
stretch_stands mb stretch ns pos neg tests work room o e h =
    let same : (m : Map) → check_stretch m (stretch_of ns pos neg) ≡ check_stretch m (host_stretch stretch pos neg) =
    λ m. ap (λ (l : List ℕ). check_stretch m (stretch_of l pos neg)) e ∙ first_65 m (stretch_lines stretch) pos neg in
    opens_by WriteOutcome.refused (λ m. WriteStretch m (check_stretch m (stretch_of ns pos neg)) tests room)
    (λ m. WriteStretch m (check_stretch m (host_stretch stretch pos neg)) tests room) mb
    (λ m d p. subst (λ (x : StretchAnswer). WriteStretch m x tests room o) (same m) p) work h

-- ---- the answer

told_refused : {a : WriteAnswer} {o : WriteOutcome} {why : Refusal} → WriteAnswers a o → a ≡ Err why → o ≡ WriteOutcome.refused (refusal_of why)
told_refused bytes e = absurd (let z : ◌≡◌ {A = ℕ} 0 1 = cc in omega arith)
told_refused refusal e = cc

-- A reference has 459 bytes at most.
pub count_small : (mb : List ℕ) (s : Stretch) (tests : ℕ) {room room' : List ℕ} {a : WriteAnswer} →
    WriteAnswered (Writes mb s tests work_length (length room)) room room' a → IfOk a (λ made. made.bytes ≤ longest_reference)
count_small mb s tests {room = room} {a = Ok made} d =
    let t = told_written {count = made.bytes} {made = made.tests} {excess = made.excess} d.answers refl in
    let w = written_bytes mb t.0 s tests work_length (length room) made.tests made.excess
    (subst (λ (o : WriteOutcome). Writes mb s tests work_length (length room) o) t.1 d.asked) in
    omega (arith, t.2, w.2)
count_small mb s tests {a = Err why} d = tt

-- What a host gets tells the outcome.
pub host_wrote_bytes : {a : WriteAnswer} {o : WriteOutcome} {made : WrittenBytes} → a ≡ Ok made → WriteAnswers a o →
    record { refusal = 0; bytes = made.bytes; tests = made.tests; excess = made.excess } ≡ host_written o
unfolding host_written
host_wrote_bytes {made = made} e h =
    let t = told_written {count = made.bytes} {made = made.tests} {excess = made.excess} h e in
    ap (λ (n : ℕ). record { refusal = 0; bytes = n; tests = made.tests; excess = made.excess }) (sym t.2) ∙ ap host_written (sym t.1)

pub host_wrote_none : {a : WriteAnswer} {o : WriteOutcome} {why : Refusal} {n : ℕ} → a ≡ Err why → n ≡ number_of (refusal_of why) → WriteAnswers a o →
    record { refusal = n; bytes = 0; tests = 0; excess = 0 } ≡ host_written o
unfolding host_written
host_wrote_none e f h = ap (λ (k : ℕ). record { refusal = k; bytes = 0; tests = 0; excess = 0 }) f ∙ ap host_written (sym (told_refused h e))

same_bytes : (room : List ℕ) (o : WriteOutcome) → bytes_after o room ≡ host_bytes_after o room
unfolding bytes_after host_bytes_after
same_bytes room (written bs made excess) = refl
same_bytes room (WriteOutcome.refused r) = refl

pub host_call : (mb ns : List ℕ) (pos neg tests : ℕ) {room room' : List ℕ} {a : WriteAnswer} →
    (d : WriteAnswered (Writes mb (stretch_of ns pos neg) tests work_length (length room)) room room' a) (stretch : List ℕ) →
    ns ≡ take 65 (stretch_lines stretch) → {r : HostWritten} → r ≡ host_written d.outcome → HostWriteCall mb stretch pos neg tests room r room'
host_call mb ns pos neg tests {room = room} d stretch taken given =
    record {
      answered = record {
        outcome = d.outcome;
        asked = stretch_stands mb stretch ns pos neg tests work_length (length room) d.outcome taken d.asked;
        answers = given;
        buffer_after = d.buffer_after ∙ same_bytes room d.outcome;
      };
    }
