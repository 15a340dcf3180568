-- A host's calls of the writer of points.
use Prim.Native.Nat.{ℕ, ◌≤◌}
use mathlib.Core.Path.{◌≡◌, refl, sym, ap, subst, ◌∙◌}
use mathlib.Core.List.{List}
use native.Mathlib.Omega.{arith}
use lib.ListN.{length}
use Rattle.model.specs.declared.Refusal.{Refusal}
use Rattle.std.specs.Prelude.{Ok, Err, IfOk}
use Rattle.model.specs.Answer.{PointWriteAnswer}
use Rattle.model.specs.Refusal.{number_of, refusal_of}
use Rattle.model.specs.Work.{work_length}
use Rattle.model.specs.PointAlong.{longest_point, GivenPoint, PointWriteOutcome, PointWrites, PointWriteAnswers, PointWriteAnswered}
use Rattle.model.specs.Host.{HostPointWritten, host_point_written, HostPointWriteCall}
use Rattle.model.proofs.Answering.{told_point}
use Rattle.model.proofs.PointTrip.{point_written_few}

told_refused : {a : PointWriteAnswer} {o : PointWriteOutcome} {why : Refusal} → PointWriteAnswers a o → a ≡ Err why →
    o ≡ PointWriteOutcome.refused (refusal_of why)
told_refused PointWriteAnswers.bytes e = absurd (let z : ◌≡◌ {A = ℕ} 0 1 = cc in omega arith)
told_refused PointWriteAnswers.refusal e = cc

-- A point has 17 bytes at most.
pub point_count_small : (mb : List ℕ) (p : GivenPoint) {room room' : List ℕ} {a : PointWriteAnswer} →
    PointWriteAnswered (PointWrites mb p work_length (length room)) room room' a → IfOk a (λ count. count ≤ longest_point)
point_count_small mb p {room = room} {a = Ok count} d =
    let t = told_point d.answers refl in
    let w = point_written_few mb t.0 p work_length (length room)
    (subst (λ (o : PointWriteOutcome). PointWrites mb p work_length (length room) o) t.1 d.asked) in
    omega (arith, t.2, w.1)
point_count_small mb p {a = Err why} d = tt

-- What a host gets tells the outcome.
pub host_wrote_point : {a : PointWriteAnswer} {o : PointWriteOutcome} {count : ℕ} → a ≡ Ok count → PointWriteAnswers a o →
    record { refusal = 0; bytes = count } ≡ host_point_written o
unfolding host_point_written
host_wrote_point e h = let t = told_point h e in ap (λ (n : ℕ). record { refusal = 0; bytes = n }) (sym t.2) ∙ ap host_point_written (sym t.1)

pub host_wrote_no_point : {a : PointWriteAnswer} {o : PointWriteOutcome} {why : Refusal} {n : ℕ} → a ≡ Err why → n ≡ number_of (refusal_of why) →
    PointWriteAnswers a o → record { refusal = n; bytes = 0 } ≡ host_point_written o
unfolding host_point_written
host_wrote_no_point e f h = ap (λ (k : ℕ). record { refusal = k; bytes = 0 }) f ∙ ap host_point_written (sym (told_refused h e))

pub host_point_call : (mb : List ℕ) (p : GivenPoint) {room room' : List ℕ} {a : PointWriteAnswer} →
    (d : PointWriteAnswered (PointWrites mb p work_length (length room)) room room' a) {r : HostPointWritten} → r ≡ host_point_written d.outcome →
    HostPointWriteCall mb p room r room'
host_point_call mb p d given = record { answered = record { outcome = d.outcome; asked = d.asked; answers = given; buffer_after = d.buffer_after } }
