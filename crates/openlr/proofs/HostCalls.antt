-- A host's calls, put together from those of the reader and the writer.
use Prim.Native.Nat.{ℕ, ◌*◌, ◌/◌, ◌≤◌, min}
use mathlib.Core.Path.{◌≡◌, refl, sym, ap, ◌∙◌}
use mathlib.Core.List.{List, ◌++◌}
use native.Mathlib.Omega.{arith}
use lib.ListN.{length, take, drop, length-append}
use lib.Seq.{take_at, take-append-le, length-take-le}
use Rattle.model.specs.declared.Refusal.{Refusal}
use Rattle.std.specs.Prelude.{Ok, Err, IfOk}
use Rattle.model.specs.declared.ReadLines.{ReadLines}
use Rattle.model.specs.Answer.{ReadAnswer, lines_read}
use Rattle.model.specs.Refusal.{refusal_of}
use Rattle.model.specs.Outcome.{ReadOutcome, read}
use Rattle.model.specs.Work.{placed}
use Rattle.model.specs.Call.{lines_after, ReadAnswers, lines, refusal, Answered, ReadAnswered}
use Rattle.model.specs.Host.{greatest_host_lines, word_bytes, host_room, HostRead, host_read, host_lines_after}

-- ---- the reader

-- The room for line numbers, where the host's buffer and the numbers are lent.
pub room_is : (ns bs : List ℕ) (room : ℕ) → room ≡ min (length bs / 4) (length ns) → length ns ≡ greatest_host_lines → length (take room ns) ≡ host_room (length bs)
unfolding host_room
room_is ns bs room e n = length-take-le room ns (omega (arith, e)) ∙ e ∙ ap (min (length bs / 4)) n

-- Line numbers that stand first in what was lent: there is room for them.
module _ (front front' ls : List ℕ) {count : ℕ} (stands : front' ≡ placed ls front) (counted : count ≡ length ls) (kept : length front' ≡ length front) where
  pub within : count ≤ length front
  unfolding placed
  within = omega (arith, counted, kept, ap (length {A = ℕ}) stands, length-append ls (drop (length ls) front))

  pub first_lines : (rest : List ℕ) → take count (front' ++ rest) ≡ ls
  unfolding placed
  first_lines rest =
      take-append-le count front' rest (omega (arith, within, kept)) ∙ ap (take count) stands ∙ take_at ls (drop (length ls) front) count (sym counted)

told_read : {a : ReadAnswer} {o : ReadOutcome} {found : ReadLines} → ReadAnswers a o → a ≡ Ok found →
    (ls : List ℕ) × (o ≡ read ls found.positive found.negative) × (found.count ≡ length ls)
told_read {found = found} (lines {ls = ls} {pos = pos} {neg = neg}) e =
    let same : lines_read (length ls) pos neg ≡ found = cc in
    (ls, ap (λ (r : ReadLines). read ls r.positive r.negative) same, sym (ap (λ (r : ReadLines). r.count) same))
told_read refusal e = absurd (let z : ◌≡◌ {A = ℕ} 0 1 = cc in omega arith)

told_refused : {a : ReadAnswer} {o : ReadOutcome} {why : Refusal} → ReadAnswers a o → a ≡ Err why → o ≡ ReadOutcome.refused (refusal_of why)
told_refused lines e = absurd (let z : ◌≡◌ {A = ℕ} 0 1 = cc in omega arith)
told_refused refusal e = cc

-- What the host gets where a reference is read.
abbrev accepted : ℕ → ReadLines → HostRead
accepted count found =
    record {
      refusal = 0;
      place = 0;
      lines = count;
      pos_least = found.positive.least;
      pos_greatest = found.positive.greatest;
      neg_least = found.negative.least;
      neg_greatest = found.negative.greatest;
    }

-- Line numbers that are read, whatever was asked: they stand first, and there is room for them.
module _ {Asks : ReadOutcome → Type 0} {front front' : List ℕ} {a : ReadAnswer} (d : ReadAnswered Asks front front' a) {found : ReadLines}
    (e : a ≡ Ok found) (kept : length front' ≡ length front) where
  ls : List ℕ
  ls = (told_read d.answers e).0

  outcome_is : d.outcome ≡ read ls found.positive found.negative
  unfolding ls
  outcome_is = (told_read d.answers e).1

  count_is : found.count ≡ length ls
  unfolding ls
  count_is = (told_read d.answers e).2

  stands : front' ≡ placed ls front
  unfolding lines_after
  stands = d.buffer_after ∙ ap (λ (o : ReadOutcome). lines_after o front) outcome_is

  pub count_fits : found.count ≤ length front
  count_fits = within front front' ls stands count_is kept

-- ---- handed over

-- The lines that were read, whatever the call: their bytes stand first in the host's buffer.
pub handed_read : {a : ReadAnswer} {o : ReadOutcome} {found : ReadLines} {numbers room' : List ℕ} (before room : List ℕ) → ReadAnswers a o →
    a ≡ Ok found → numbers ≡ lines_after o before → room' ≡ placed (word_bytes (take found.count numbers)) room →
    (accepted found.count found ≡ host_read o) × (room' ≡ host_lines_after o room)
unfolding lines_after placed host_read host_lines_after
handed_read {o = o} {found} {numbers} before room t e stand put =
    let k = told_read t e in
    let lent : numbers ≡ k.0 ++ drop (length k.0) before = stand ∙ ap (λ (o : ReadOutcome). lines_after o before) k.1 in
    let first : take found.count numbers ≡ k.0 = ap (take found.count) lent ∙ take_at k.0 (drop (length k.0) before) found.count (sym k.2) in (
      ap (λ (n : ℕ). accepted n found) k.2 ∙ ap host_read (sym k.1),
      put ∙ ap (λ (l : List ℕ). placed (word_bytes l) room) first ∙ ap (λ (o : ReadOutcome). host_lines_after o room) (sym k.1),
    )

pub handed_refused : {a : ReadAnswer} {o : ReadOutcome} {why : Refusal} {room : List ℕ} {r : HostRead} → ReadAnswers a o → a ≡ Err why →
    r ≡ host_read (ReadOutcome.refused (refusal_of why)) → (r ≡ host_read o) × (room ≡ host_lines_after o room)
unfolding host_lines_after
handed_refused {room = room} t e given =
    let is = told_refused t e in
    (given ∙ ap host_read (sym is), ap (λ (o : ReadOutcome). host_lines_after o room) (sym is))

-- What the reader answered, handed over, is what the host's call answers.
pub host_answered : {Asks : ReadOutcome → Type 0} {front front' lent room room' : List ℕ} {a : ReadAnswer} {r : HostRead} →
    ReadAnswered Asks front front' a → lent ≡ front' →
    ((o : ReadOutcome) (before : List ℕ) → ReadAnswers a o → lent ≡ lines_after o before → (r ≡ host_read o) × (room' ≡ host_lines_after o room)) →
    Answered (λ given o. given ≡ host_read o) host_lines_after Asks room room' r
host_answered {front = front} d same hand =
    let h = hand d.outcome front d.answers (same ∙ d.buffer_after) in
    record { outcome = d.outcome; asked = d.asked; answers = h.0; buffer_after = h.1 }

-- What was lent to the reader of all numbers, and comes back as `last`.
module _ (numbers lines last : List ℕ) (room : ℕ) (is : room ≡ min (length lines / 4) (length numbers)) (all : length numbers ≡ greatest_host_lines)
    (kept : length last ≡ length (take room numbers)) where
  size : length (take room numbers) ≡ room
  size = length-take-le room numbers (omega (arith, is))

  -- It is lent once more, to be handed over.
  pub lent_is : take room (last ++ drop room numbers) ≡ last
  lent_is = take_at last (drop room numbers) room (kept ∙ size)

  -- As many lines as there was room for can be handed over.
  pub lent_room : (count : ℕ) → count ≤ length (take room numbers) →
      (count ≤ length (take room (last ++ drop room numbers))) × (count * 4 ≤ length lines) × (count ≤ greatest_host_lines)
  lent_room count h =
      (omega (arith, kept, ap (length {A = ℕ}) lent_is), omega (arith, is, size), omega (arith, is, size, all))

  -- What the reader answered of them can be handed over.
  pub can_hand : {Asks : ReadOutcome → Type 0} {a : ReadAnswer} → ReadAnswered Asks (take room numbers) last a →
      IfOk a (λ found. (found.count ≤ length (take room (last ++ drop room numbers))) × (found.count * 4 ≤ length lines) × (found.count ≤ greatest_host_lines))
  can_hand {a = Ok found} d = lent_room found.count (count_fits d refl kept)
  can_hand {a = Err why} d = tt
