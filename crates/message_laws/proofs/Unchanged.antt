-- "An empty addition to an open one and a refusal change nothing"; "with any other state a call still ends and writes only in what it is lent" (W9). All of
-- it holds for every message that a call can be given.
use Prim.Native.Nat.{ℕ, ◌+◌, ◌-◌}
use mathlib.Core.Path.{◌≡◌, refl, sym, ◌∙◌, ap}
use mathlib.Core.Bool.{Bool, true, false, cond}
use mathlib.Core.List.{List, [], ◌++◌}
use native.Mathlib.Omega.{arith}
use lib.ListN.{length, take, drop, length-append, length-drop}
use lib.Seq.{length-take-le, take_at, drop-append_seam, drop-append-add, drop-drop}
use lib.Dec.{eqb}
use Rattle.model.specs.declared.Refusal.{Refusal}
use Rattle.model.specs.declared.Refusal.TheVariants.{MessageFull}
use Rattle.model.specs.declared.Message.{Message}
use Rattle.model.specs.declared.Message.TheVariants.{Closed, Open}
use Rattle.model.specs.Answer.{MessageAnswer}
use Rattle.std.specs.Prelude.{Ok, Err}
use Rattle.model.specs.Work.{placed}
use Rattle.model.specs.Message.{longest_message, length_bytes, framed}
use Rattle.model.specs.MessageCall.{end_of, fits, adding, so_far, extended, buffer_added, Adds}
use Rattle.message_laws.proofs.Lengths.{wider}
use Rattle.message_laws.proofs.Framing.{framed_length}
use Rattle.message_laws.proofs.Fitting.{fit_of, end_is, behind_finished}

pub empty_addition : {finished count : ℕ} {buffer buffer' : List ℕ} {a : MessageAnswer} → Adds (Open finished count) buffer [] a buffer' →
    (a ≡ Ok (Open finished count)) × (buffer' ≡ buffer)
unfolding adding buffer_added
empty_addition e = (e.answers, e.buffer_after)

not_now : {m : Message} {why : Refusal} → ◌≡◌ {A = MessageAnswer} (Err why) (Ok m) → ⊥
not_now e = let z : ◌≡◌ {A = ℕ} 0 1 = cc in omega arith

pub refusal_changes_nothing : {m : Message} {why : Refusal} {buffer buffer' portion : List ℕ} → Adds m buffer portion (Err why) buffer' → buffer' ≡ buffer
unfolding adding buffer_added
refusal_changes_nothing {m} {why} {buffer} {buffer'} {portion} e = go m e.answers e.buffer_after
  where
    by_tests : (finished count : ℕ) (t u : Bool) →
        Err why ≡ cond t (Ok (Open finished count)) (cond u (Ok (Open finished (count + length portion))) (Err MessageFull)) →
        buffer' ≡ cond t buffer (cond u (take finished buffer ++ extended count (drop finished buffer) portion) buffer) → buffer' ≡ buffer
    by_tests finished count true u a b = b
    by_tests finished count false true a b = absurd (not_now a)
    by_tests finished count false false a b = b

    go : (m : Message) → Err why ≡ adding m (length buffer) portion → buffer' ≡ buffer_added m buffer portion → buffer' ≡ buffer
    go (Closed finished) a b = b
    go (Open finished count) a b = by_tests finished count (eqb (length portion) 0) (fits finished (count + length portion) (length buffer)) a b

-- ---- what an addition writes

-- Where an addition to an open reference ends, and what it leaves of a buffer before the reference and behind that end.
pub record Inside (finished end : ℕ) (buffer buffer' : List ℕ) : Type 0 where
  pub room : length buffer' ≡ length buffer
  pub before : take finished buffer' ≡ take finished buffer
  pub behind : drop end buffer' ≡ drop end buffer

module _ (finished count : ℕ) (buffer portion : List ℕ) (fit : fits finished (count + length portion) (length buffer) ≡ true) where
  part : List ℕ
  part = drop finished buffer

  new : List ℕ
  new = framed (so_far count part ++ portion)

  before_length : length (take finished buffer) ≡ finished
  before_length =
      let f = fit_of finished (count + length portion) (length buffer) fit in
      length-take-le finished buffer (omega (arith, f.in_room, behind_finished finished (count + length portion)))

  so_far_length : length (so_far count part) ≡ count
  unfolding so_far part
  so_far_length =
      let f = fit_of finished (count + length portion) (length buffer) fit in
      let w = wider count (count + length portion) (omega arith) f.short in
      length-take-le count (drop (length (length_bytes count)) part)
      (omega (arith, f.in_room, end_is finished (count + length portion), length-drop finished buffer, length-drop (length (length_bytes count)) part))

  new_length : finished + length new ≡ end_of finished (count + length portion)
  unfolding new
  new_length =
      let whole = length-append (so_far count part) portion in
      let same : length (so_far count part ++ portion) ≡ count + length portion = omega (arith, so_far_length) in
      ap (λ (n : ℕ). finished + n) (framed_length (so_far count part ++ portion) ∙ ap (λ (n : ℕ). length (length_bytes n) + n) same)
      ∙ sym (end_is finished (count + length portion))

  written_inside : Inside finished (end_of finished (count + length portion)) buffer (take finished buffer ++ extended count (drop finished buffer) portion)
  unfolding extended placed part new
  written_inside =
      let f = fit_of finished (count + length portion) (length buffer) fit in
      let rest = drop (length new) part in
      let end : finished + length new ≡ end_of finished (count + length portion) = new_length in
      record {
        room =
            omega (
              arith,
              length-append (take finished buffer) (new ++ rest),
              length-append new rest,
              length-drop (length new) part,
              length-drop finished buffer,
              before_length,
              f.in_room,
            );
        before = take_at (take finished buffer) (new ++ rest) finished before_length;
        behind =
            ap (λ (n : ℕ). drop n (take finished buffer ++ (new ++ rest))) (sym end ∙ ap (λ (n : ℕ). n + length new) (sym before_length))
            ∙ drop-append-add (take finished buffer) (new ++ rest) (length new)
            ∙ drop-append_seam new rest ∙ drop-drop (length new) finished buffer ∙ ap (λ (n : ℕ). drop n buffer) end;
      }

untouched : (finished end : ℕ) (buffer : List ℕ) → Inside finished end buffer buffer
untouched finished end buffer = record { room = refl; before = refl; behind = refl }

pub writes_inside : {finished count : ℕ} {buffer buffer' portion : List ℕ} {a : MessageAnswer} → Adds (Open finished count) buffer portion a buffer' →
    Inside finished (end_of finished (count + length portion)) buffer buffer'
unfolding buffer_added
writes_inside {finished} {count} {buffer} {buffer'} {portion} e =
    rw e.buffer_after (by_tests (eqb (length portion) 0) (fits finished (count + length portion) (length buffer)) refl)
  where
    by_tests : (t u : Bool) → fits finished (count + length portion) (length buffer) ≡ u →
        Inside finished (end_of finished (count + length portion)) buffer
        (cond t buffer (cond u (take finished buffer ++ extended count (drop finished buffer) portion) buffer))
    by_tests true u fit = untouched finished _ buffer
    by_tests false true fit = written_inside finished count buffer portion fit
    by_tests false false fit = untouched finished _ buffer

pub none_open_writes_nothing : {finished : ℕ} {buffer buffer' portion : List ℕ} {a : MessageAnswer} → Adds (Closed finished) buffer portion a buffer' →
    buffer' ≡ buffer
unfolding buffer_added
none_open_writes_nothing e = e.buffer_after

-- "At most the first 16,384 bytes are used": those behind are as they were.
pub behind_16384 : {m : Message} {buffer buffer' portion : List ℕ} {a : MessageAnswer} → Adds m buffer portion a buffer' →
    drop longest_message buffer' ≡ drop longest_message buffer
unfolding buffer_added
behind_16384 {m} {buffer} {buffer'} {portion} e = ap (drop longest_message) e.buffer_after ∙ go m
  where
    by_tests : (finished count : ℕ) (t u : Bool) → fits finished (count + length portion) (length buffer) ≡ u →
        drop longest_message (cond t buffer (cond u (take finished buffer ++ extended count (drop finished buffer) portion) buffer))
        ≡ drop longest_message buffer
    by_tests finished count true u fit = refl
    by_tests finished count false true fit =
        let end = end_of finished (count + length portion) in
        let inside = written_inside finished count buffer portion fit in
        let after = take finished buffer ++ extended count (drop finished buffer) portion in
        let more : longest_message ≡ end + (longest_message - end) = omega (arith, (fit_of finished (count + length portion) (length buffer) fit).in_most) in
        ap (λ (n : ℕ). drop n after) more ∙ sym (drop-drop (longest_message - end) end after) ∙ ap (drop (longest_message - end)) inside.behind
        ∙ drop-drop (longest_message - end) end buffer ∙ ap (λ (n : ℕ). drop n buffer) (sym more)
    by_tests finished count false false fit = refl

    go : (m : Message) → drop longest_message (buffer_added m buffer portion) ≡ drop longest_message buffer
    go (Closed finished) = refl
    go (Open finished count) = by_tests finished count (eqb (length portion) 0) (fits finished (count + length portion) (length buffer)) refl
