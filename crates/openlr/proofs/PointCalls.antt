-- A host's calls with points, put together from those of the reader and the writer of points.
use Prim.Native.Nat.{ℕ, ◌*◌, ◌/◌, ◌≤◌, min}
use mathlib.Core.Path.{◌≡◌, refl, sym, ap, ◌∙◌}
use mathlib.Core.List.{List, ◌++◌}
use native.Mathlib.Omega.{arith}
use lib.ListN.{length, take, drop}
use lib.Seq.{take_at}
use Rattle.model.specs.declared.Refusal.{Refusal}
use Rattle.std.specs.Prelude.{Ok, Err, IfOk}
use Rattle.model.specs.declared.ReadPoint.{ReadPoint}
use Rattle.model.specs.Answer.{PointReadAnswer, point_read}
use Rattle.model.specs.Refusal.{refusal_of}
use Rattle.model.specs.Work.{placed}
use Rattle.model.specs.Call.{Answered}
use Rattle.model.specs.PointAlong.{PointReadOutcome, read, point_lines_after, PointReadAnswers, PointReadAnswered}
use Rattle.model.specs.Host.{greatest_host_lines, word_bytes, HostPoint, host_point, host_point_lines_after}
use Rattle.openlr.proofs.HostCalls.{within, lent_room}

told_read : {a : PointReadAnswer} {o : PointReadOutcome} {found : ReadPoint} → PointReadAnswers a o → a ≡ Ok found →
    (ls : List ℕ) × (o ≡ read ls found.offset found.orientation found.side) × (found.count ≡ length ls)
told_read {found = found} (PointReadAnswers.lines {ls = ls} {span = span} {orientation = orientation} {side = side}) e =
    let same : point_read (length ls) span orientation side ≡ found = cc in
    (ls, ap (λ (r : ReadPoint). read ls r.offset r.orientation r.side) same, sym (ap (λ (r : ReadPoint). r.count) same))
told_read PointReadAnswers.refusal e = absurd (let z : ◌≡◌ {A = ℕ} 0 1 = cc in omega arith)

told_refused : {a : PointReadAnswer} {o : PointReadOutcome} {why : Refusal} → PointReadAnswers a o → a ≡ Err why →
    o ≡ PointReadOutcome.refused (refusal_of why)
told_refused PointReadAnswers.lines e = absurd (let z : ◌≡◌ {A = ℕ} 0 1 = cc in omega arith)
told_refused PointReadAnswers.refusal e = cc

-- What the host gets where a point is read.
abbrev accepted : ℕ → ReadPoint → HostPoint
accepted count found =
    record {
      refusal = 0;
      place = 0;
      lines = count;
      least = found.offset.least;
      greatest = found.offset.greatest;
      orientation = found.orientation;
      side = found.side;
    }

-- Line numbers that are read, whatever was asked: they stand first, and there is room for them.
module _ {Asks : PointReadOutcome → Type 0} {front front' : List ℕ} {a : PointReadAnswer} (d : PointReadAnswered Asks front front' a)
    {found : ReadPoint} (e : a ≡ Ok found) (kept : length front' ≡ length front) where
  ls : List ℕ
  ls = (told_read d.answers e).0

  outcome_is : d.outcome ≡ read ls found.offset found.orientation found.side
  unfolding ls
  outcome_is = (told_read d.answers e).1

  count_is : found.count ≡ length ls
  unfolding ls
  count_is = (told_read d.answers e).2

  stands : front' ≡ placed ls front
  unfolding point_lines_after
  stands = d.buffer_after ∙ ap (λ (o : PointReadOutcome). point_lines_after o front) outcome_is

  pub count_fits : found.count ≤ length front
  count_fits = within front front' ls stands count_is kept

-- ---- handed over

-- The lines that were read, whatever the call: their bytes stand first in the host's buffer.
pub handed_read : {a : PointReadAnswer} {o : PointReadOutcome} {found : ReadPoint} {numbers room' : List ℕ} (before room : List ℕ) →
    PointReadAnswers a o → a ≡ Ok found → numbers ≡ point_lines_after o before → room' ≡ placed (word_bytes (take found.count numbers)) room →
    (accepted found.count found ≡ host_point o) × (room' ≡ host_point_lines_after o room)
unfolding point_lines_after placed host_point host_point_lines_after
handed_read {o = o} {found} {numbers} before room t e stand put =
    let k = told_read t e in
    let lent : numbers ≡ k.0 ++ drop (length k.0) before = stand ∙ ap (λ (o : PointReadOutcome). point_lines_after o before) k.1 in
    let first : take found.count numbers ≡ k.0 = ap (take found.count) lent ∙ take_at k.0 (drop (length k.0) before) found.count (sym k.2) in (
      ap (λ (n : ℕ). accepted n found) k.2 ∙ ap host_point (sym k.1),
      put ∙ ap (λ (l : List ℕ). placed (word_bytes l) room) first ∙ ap (λ (o : PointReadOutcome). host_point_lines_after o room) (sym k.1),
    )

pub handed_refused : {a : PointReadAnswer} {o : PointReadOutcome} {why : Refusal} {room : List ℕ} {r : HostPoint} → PointReadAnswers a o → a ≡ Err why →
    r ≡ host_point (PointReadOutcome.refused (refusal_of why)) → (r ≡ host_point o) × (room ≡ host_point_lines_after o room)
unfolding host_point_lines_after
handed_refused {room = room} t e given =
    let is = told_refused t e in
    (given ∙ ap host_point (sym is), ap (λ (o : PointReadOutcome). host_point_lines_after o room) (sym is))

-- What the reader answered, handed over, is what the host's call answers.
pub host_answered : {Asks : PointReadOutcome → Type 0} {front front' lent room room' : List ℕ} {a : PointReadAnswer} {r : HostPoint} →
    PointReadAnswered Asks front front' a → lent ≡ front' →
    ((o : PointReadOutcome) (before : List ℕ) → PointReadAnswers a o → lent ≡ point_lines_after o before →
    (r ≡ host_point o) × (room' ≡ host_point_lines_after o room)) → Answered (λ given o. given ≡ host_point o) host_point_lines_after Asks room room' r
host_answered {front = front} d same hand =
    let h = hand d.outcome front d.answers (same ∙ d.buffer_after) in
    record { outcome = d.outcome; asked = d.asked; answers = h.0; buffer_after = h.1 }

-- What the reader answered of the numbers lent to it can be handed over.
pub can_hand : (numbers lines last : List ℕ) (room : ℕ) → room ≡ min (length lines / 4) (length numbers) → length numbers ≡ greatest_host_lines →
    length last ≡ length (take room numbers) → {Asks : PointReadOutcome → Type 0} {a : PointReadAnswer} → PointReadAnswered Asks (take room numbers) last a →
    IfOk a (λ found. (found.count ≤ length (take room (last ++ drop room numbers))) × (found.count * 4 ≤ length lines) × (found.count ≤ greatest_host_lines))
can_hand numbers lines last room is all kept {a = Ok found} d = lent_room numbers lines last room is all kept found.count (count_fits d refl kept)
can_hand numbers lines last room is all kept {a = Err why} d = tt
