-- A point is written as the stretch of its line alone is, with the marks added.
use Prim.Native.Nat.{ℕ, zero, suc, ◌≤◌, ◌<◌}
use mathlib.Core.Path.{◌≡◌, refl, sym, ap, subst, ◌∙◌}
use mathlib.Core.Bool.{true}
use mathlib.Core.List.{List, [], ◌∷◌, append-nil}
use native.Mathlib.Omega.{arith}
use lib.ListN.{length, get_or, take, drop}
use lib.Seq.{take_at}
use Rattle.model.specs.declared.Refusal.{Refusal}
use Rattle.std.specs.Prelude.{Ok, Err}
use Rattle.model.specs.Answer.{WriteAnswer, PointWriteAnswer, bytes_written}
use Rattle.model.specs.Refusal.{row, refusal_of}
use Rattle.model.specs.Map.{Map}
use Rattle.model.specs.Lines.{Connected, single, first_of, last_of, leaving, arriving}
use Rattle.model.specs.WellFormed.{WellFormed}
use Rattle.model.specs.Reference.{bytes_of}
use Rattle.model.specs.Reading.{joined}
use Rattle.model.specs.Stretch.{Stretch, stretch_of}
use Rattle.model.specs.Choice.{Good, good, Usable, final, before, Choice, point_of, stretch_bytes}
use Rattle.model.specs.LegTests.{legs_before, leg_count, tests_made}
use Rattle.model.specs.BestFound.{Ordinary}
use Rattle.model.specs.Outcome.{WriteOutcome, written, WriteOn}
use Rattle.model.specs.Work.{placed}
use Rattle.model.specs.Call.{bytes_after, WriteAnswers, WriteAnswered}
use Rattle.model.specs.PointAlong.{shortest_point, longest_point, line_reference, GivenPoint, own_leg, along_of, given_bytes, PointWriteOutcome, PointWriteOn, point_bytes_after, PointWriteAnswers, PointWriteAnswered}
use Rattle.model.proofs.Joining.{as_many}
use Rattle.model.proofs.Bytes.{byte_p_lem}
use Rattle.model.proofs.Answering.{told_written}
use Rattle.model.proofs.BestFound.{ordinary_on}
use Rattle.model.proofs.PointBytes.{point_size, few_offsets}
use Rattle.model.proofs.PointTrip.{as_stretch}
use Rattle.model.proofs.PointWriting.{Taken}
use Rattle.work_area.specs.Area.{Held}
use Rattle.stretches.specs.Known.{Known}
use Rattle.reference_bytes.specs.Put.{Inside}
use Rattle.point_bytes.specs.PointForm.{with_marks}
use Rattle.point_bytes.proofs.AsLine.{as_line, with_length, line_size, first_p_at, last_p_at, placed_at, marks_over}
use Rattle.point_writer.specs.PointChecks.{PutsPoint}
use Rattle.point_writer.proofs.Answers.{refused_point}
use Rattle.model.specs.Refusal as definitions

-- The line alone, as a stretch.
abbrev pub own_stretch : GivenPoint → Stretch
own_stretch p = stretch_of (own_leg p) p.offset 0

module _ {m : Map} {p : GivenPoint} (t : Taken m p) where
  pub own_connected : Connected m (own_leg p)
  own_connected = single t.known

  pub own_known : {w : List ℕ} {n : ℕ} → Held w n m → Known n (own_leg p)
  own_known held zero h = omega (arith, held.line_count, t.known)
  own_known held (suc i) h = absurd (omega arith)

  pub own_inside : Inside m (own_stretch p)
  unfolding first_of last_of
  own_inside = record { pos = t.inside; neg = omega (arith, t.inside) }

-- A choice of points for one line has that line as its only leg.
one_leg : {m : Map} {l at : ℕ} {lss : List (List ℕ)} → Usable (good m) at lss → joined lss ≡ l ∷ [] → (lss ≡ (l ∷ []) ∷ []) × Good m true (l ∷ [])
unfolding joined
one_leg {m} {l} (final {ls = ls} g) e =
    let same : ls ≡ l ∷ [] = sym (append-nil ls) ∙ e in
    (ap (λ (k : List ℕ). k ∷ []) same, subst (Good m true) same g)
one_leg {l = l} (before {ls = ls} {ks = ks} {lss = lss} g u) e =
    absurd (omega (arith, (as_many (before g u)).1, ap (λ (k : List ℕ). length k) e))

own_choice : {m : Map} (p : GivenPoint) → Good m true (own_leg p) → Choice (good m) (own_leg p) (own_leg p ∷ [])
unfolding joined
own_choice p g = record { usable = final g; whole = refl }

-- The bytes of that stretch: a line reference with the point's points, leg and offset.
abbrev pub line_bytes : Map → GivenPoint → List ℕ
line_bytes m p = bytes_of (line_reference (along_of m p))

own_bytes : (m : Map) (p : GivenPoint) → stretch_bytes m (own_leg p ∷ []) (own_stretch p) ≡ line_bytes m p
unfolding stretch_bytes
own_bytes m p = ap bytes_of (sym (as_stretch m p))

pub line_few : (m : Map) (p : GivenPoint) → (shortest_point ≤ length (line_bytes m p)) × (length (line_bytes m p) ≤ longest_point)
line_few m p = omega (arith, line_size (along_of m p), point_size (along_of m p), few_offsets (along_of m p).offset)

-- ---- what the writer of stretches answers to it, with room for the longest point

-- The leg tests made of a line alone, with one test: all of them.
abbrev pub one_made : ℕ
one_made = tests_made 1 1

module _ (m : Map) (p : GivenPoint) where
  -- One line has one leg, so that one test makes the answer the ordinary one.
  one_test : {room : ℕ} (o : WriteOutcome) → WriteOn m (own_stretch p) one_made room o → Ordinary m (own_stretch p) room o
  unfolding tests_made leg_count legs_before
  one_test {room} o w = ordinary_on m (own_stretch p) room o w

  -- Accepted: the line is good, and its bytes are written.
  by_accepted : {room made excess : ℕ} {bs : List ℕ} (o : WriteOutcome) → Ordinary m (own_stretch p) room o → o ≡ written bs made excess →
      Good m true (own_leg p) × (bs ≡ line_bytes m p)
  by_accepted o (Ordinary.no_choice n) e = absurd (let z : ◌≡◌ {A = ℕ} 0 1 = cc in omega arith)
  by_accepted o (Ordinary.no_room c h) e = absurd (let z : ◌≡◌ {A = ℕ} 0 1 = cc in omega arith)
  by_accepted {bs = bs} o (Ordinary.accepted {lss = lss} c h) e =
      let one = one_leg c.choice.usable c.choice.whole in
      let same : stretch_bytes m lss (own_stretch p) ≡ bs = cc in
      (one.1, sym same ∙ ap (λ (ls : List (List ℕ)). stretch_bytes m ls (own_stretch p)) one.0 ∙ own_bytes m p)

  -- Refused: with 10, since there is room, and the line is not good.
  by_refused : {room : ℕ} {r : definitions.Refused} (o : WriteOutcome) → longest_point ≤ room → Ordinary m (own_stretch p) room o →
      o ≡ WriteOutcome.refused r → (r ≡ row 10) × (Good m true (own_leg p) → ⊥)
  by_refused {r = r} o full (Ordinary.no_choice n) e = let same : row 10 ≡ r = cc in (sym same, λ g. n _ (own_choice p g))
  by_refused o full (Ordinary.no_room {lss = lss} c h) e =
      let one = one_leg c.choice.usable c.choice.whole in
      let size = ap (λ (ls : List (List ℕ)). length (stretch_bytes m ls (own_stretch p))) one.0 ∙ ap (λ (l : List ℕ). length l) (own_bytes m p) in
      absurd (omega (arith, full, h, size, (line_few m p).1))
  by_refused o full (Ordinary.accepted c h) e = absurd (let z : ◌≡◌ {A = ℕ} 0 1 = cc in omega arith)

  -- The line's bytes stand first, and so many are answered.
  pub record OwnWritten (before after : List ℕ) (count : ℕ) : Type 0 where
    pub good_line : Good m true (own_leg p)
    pub size : length (line_bytes m p) ≡ count
    pub few : count ≤ longest_point
    pub first : after ≡ placed (line_bytes m p) before

  pub own_written : {before after : List ℕ} {a : WriteAnswer} {count made excess : ℕ} →
      WriteAnswered (WriteOn m (own_stretch p) one_made (length before)) before after a → a ≡ Ok (bytes_written count made excess) → OwnWritten before after count
  unfolding bytes_after
  own_written {before} d e =
      let k = told_written d.answers e in
      let g = by_accepted d.outcome (one_test d.outcome d.asked) k.1 in
      let size = ap (λ (l : List ℕ). length l) (sym g.1) ∙ k.2 in
      record {
        good_line = g.0;
        size = size;
        few = omega (arith, size, (line_few m p).1);
        first = d.buffer_after ∙ ap (λ (o : WriteOutcome). bytes_after o before) k.1 ∙ ap (λ (l : List ℕ). placed l before) g.1;
      }

  refused_outcome : {a : WriteAnswer} {o : WriteOutcome} {r : Refusal} → WriteAnswers a o → a ≡ Err r → o ≡ WriteOutcome.refused (refusal_of r)
  refused_outcome WriteAnswers.bytes e = absurd (let z : ◌≡◌ {A = ℕ} 0 1 = cc in omega arith)
  refused_outcome {r = r} (WriteAnswers.refusal {why = w}) e = let same : w ≡ r = cc in ap (λ (x : Refusal). WriteOutcome.refused (refusal_of x)) same

  pub own_refused : {before after bytes : List ℕ} {a : WriteAnswer} {r : Refusal} (room : ℕ) → longest_point ≤ length before →
      WriteAnswered (WriteOn m (own_stretch p) one_made (length before)) before after a → a ≡ Err r →
      PointWriteAnswered (PointWriteOn m p room) bytes bytes (Err r)
  own_refused {r = r} room full d e =
      let k = by_refused d.outcome full (one_test d.outcome d.asked) (refused_outcome d.answers e) in
      refused_point r (rw k.0 (PointWriteOn.not_good k.1))

-- ---- the marks put on, and the bytes put

module _ {m : Map} {p : GivenPoint} (w : WellFormed m) (t : Taken m p) where
  -- What `put_marks` asks for: no mark is there yet.
  pub unmarked : (buffer : List ℕ) → (get_or (placed (line_bytes m p) buffer) 7 0 < 64) × (get_or (placed (line_bytes m p) buffer) 14 0 < 64)
  unfolding along_of point_of first_of leaving arriving
  unmarked buffer =
      let ok = w.line_ok _ t.known in
      let few = (line_few m p).0 in
      rw (placed_at (line_bytes m p) buffer 7 (omega (arith, few)), placed_at (line_bytes m p) buffer 14 (omega (arith, few)), first_p_at (along_of m p), last_p_at (along_of m p))
      (byte_p_lem _ (record { frc = ok.frc; fow = ok.fow; sector = ok.out }), byte_p_lem _ (record { frc = ok.frc; fow = ok.fow; sector = ok.back }))

pub marked_first : (m : Map) (p : GivenPoint) (buffer after : List ℕ) (count : ℕ) → length (line_bytes m p) ≡ count →
    after ≡ with_marks p.orientation p.side (placed (line_bytes m p) buffer) → take count after ≡ given_bytes m p
unfolding placed given_bytes along_of
marked_first m p buffer after count size e =
    let bs = with_marks p.orientation p.side (line_bytes m p) in
    rw (e, marks_over p.orientation p.side (line_bytes m p) buffer (line_few m p).0)
    (take_at bs (drop (length bs) buffer) count (with_length p.orientation p.side (line_bytes m p) ∙ size))
    ∙ as_line (along_of m p)

pub point_put : (m : Map) (p : GivenPoint) {before after : List ℕ} (a : PointWriteAnswer) → Good m true (own_leg p) →
    PutsPoint (given_bytes m p) before after a → PointWriteAnswered (PointWriteOn m p (length before)) before after a
unfolding point_bytes_after refusal_of
point_put m p (Ok n) g (size, room, e) =
    record {
      outcome = PointWriteOutcome.written (given_bytes m p);
      asked = PointWriteOn.accepted g (omega (arith, size, room));
      answers = subst (λ (k : ℕ). PointWriteAnswers (Ok k) (PointWriteOutcome.written (given_bytes m p))) (sym size) PointWriteAnswers.bytes;
      buffer_after = e;
    }
point_put m p (Err why) g (is, room, e) =
    record {
      outcome = PointWriteOutcome.refused (row 11);
      asked = PointWriteOn.no_room g room;
      answers = subst (λ (r : Refusal). PointWriteAnswers (Err r) (PointWriteOutcome.refused (row 11))) (sym is) PointWriteAnswers.refusal;
      buffer_after = e;
    }
