-- Answers to the definitions' questions about a point, put together from those of the parts.
use Prim.Native.Nat.{ℕ, ◌≤◌, ◌<◌}
use mathlib.Core.Path.{◌≡◌, refl, ap, subst, ◌∙◌}
use mathlib.Core.List.{List}
use lib.ListN.{length, take, drop}
use lib.Seq.{take_at}
use Rattle.model.specs.declared.Refusal.{Refusal}
use Rattle.model.specs.declared.ReadLines.{ReadLines}
use Rattle.model.specs.Answer.{ReadAnswer, PointReadAnswer, lines_read, point_read}
use Rattle.std.proofs.Common.{Ok, Err}
use Rattle.model.specs.Refusal.{refusal_of}
use Rattle.model.specs.Map.{Map, MapAnswer, decode}
use Rattle.model.specs.Outcome.{ReadOutcome, ReadOn}
use Rattle.model.specs.Reference.{Reference, reference_at}
use Rattle.model.specs.Work.{work_length, cleared, placed}
use Rattle.model.specs.Call.{lines_after, ReadAnswers, ReadAnswered}
use Rattle.model.specs.PointAlong.{PointAlong, PointParse, point_along_at, parse_point, line_reference, PointReadOutcome, read, PointReadOn, PointReadParsed, PointReadMap, point_lines_after, PointReadAnswers, PointReadAnswered, PointReadCall}
use Rattle.point_bytes.specs.PointForm.{without_marks}
use Rattle.model.proofs.PointShape.{Shaped}
use Rattle.point_bytes.proofs.AsLine.{without_length, reference_is}
use Rattle.model.proofs.Answering as Answering
use Rattle.model.specs.declared.Refusal.TheVariants as why

-- A refusal leaves the line buffer.
pub refused_point : {Asks : PointReadOutcome → Type 0} {lines : List ℕ} (r : Refusal) → Asks (PointReadOutcome.refused (refusal_of r)) →
    PointReadAnswered Asks lines lines (Err r)
unfolding point_lines_after
refused_point r h = record { outcome = PointReadOutcome.refused (refusal_of r); asked = h; answers = PointReadAnswers.refusal; buffer_after = refl }

-- A copy without the marks, which stands first in a buffer.
pub line_first : (bs copy rest : List ℕ) → copy ≡ placed (without_marks bs) rest → take (length bs) copy ≡ without_marks bs
unfolding placed
line_first bs copy rest e = rw e (take_at (without_marks bs) (drop (length (without_marks bs)) rest) (length bs) (without_length bs))

-- What is answered to the line reference, told with the marks, is what is answered to the point.
module _ (m : Map) (a : PointAlong) (room : ℕ) (before after : List ℕ) where
  found_outcome : {found : ReadLines} (r : ReadAnswer) (o : ReadOutcome) → ReadOn m (line_reference a) room o → ReadAnswers r o → after ≡ lines_after o before →
      r ≡ Ok found → PointReadAnswered (PointReadOn m a room) before after (Ok (point_read found.count found.positive a.orientation a.side))
  unfolding lines_after point_lines_after
  found_outcome {found} r o asked (ReadAnswers.lines {ls = ls} {pos = pos} {neg = neg}) left e =
      let all : lines_read (length ls) pos neg ≡ found = cc in
      subst (λ (f : ReadLines). PointReadAnswered (PointReadOn m a room) before after (Ok (point_read f.count f.positive a.orientation a.side))) all
      (record {
        outcome = read ls pos a.orientation a.side;
        asked = PointReadOn.accepted asked;
        answers = PointReadAnswers.lines;
        buffer_after = left;
      })
  found_outcome r o asked ReadAnswers.refusal left e = absurd cc

  refused_outcome : {given : Refusal} (r : ReadAnswer) (o : ReadOutcome) → ReadOn m (line_reference a) room o → ReadAnswers r o → after ≡ lines_after o before →
      r ≡ Err given → PointReadAnswered (PointReadOn m a room) before after (Err given)
  unfolding lines_after point_lines_after
  refused_outcome r o asked ReadAnswers.lines left e = absurd cc
  refused_outcome {given} r o asked (ReadAnswers.refusal {why = w}) left e =
      let same : w ≡ given = cc in
      subst (λ (v : Refusal). PointReadAnswered (PointReadOn m a room) before after (Err v)) same
      (record {
        outcome = PointReadOutcome.refused (refusal_of w);
        asked = PointReadOn.not_accepted asked;
        answers = PointReadAnswers.refusal;
        buffer_after = left;
      })

  -- The line reference is in the first bytes of a copy without the marks.
  module _ (bs copy rest : List ℕ) (s : Shaped bs) (same : point_along_at bs ≡ a) (put : copy ≡ placed (without_marks bs) rest) where
    by_line : (r : ReadAnswer) → ReadAnswered (ReadOn m (reference_at (take (length bs) copy) 1) room) before after r →
        ReadAnswered (ReadOn m (line_reference a) room) before after r
    by_line r d =
        let e = ap (λ (l : List ℕ). reference_at l 1) (line_first bs copy rest put) ∙ reference_is bs s ∙ ap line_reference same in
        subst (λ (q : Reference). ReadAnswered (ReadOn m q room) before after r) e d

    pub found_by_line : {found : ReadLines} {orientation side : ℕ} → orientation ≡ a.orientation → side ≡ a.side →
        ReadAnswered (ReadOn m (reference_at (take (length bs) copy) 1) room) before after (Ok found) →
        PointReadAnswered (PointReadOn m a room) before after (Ok (point_read found.count found.positive orientation side))
    found_by_line e f d = let l = by_line _ d in rw (e, f) (found_outcome _ l.outcome l.asked l.answers l.buffer_after refl)

    pub refused_by_line : {given : Refusal} → ReadAnswered (ReadOn m (reference_at (take (length bs) copy) 1) room) before after (Err given) →
        PointReadAnswered (PointReadOn m a room) before after (Err given)
    refused_by_line d = let l = by_line _ d in refused_outcome _ l.outcome l.asked l.answers l.buffer_after refl

-- Bytes that are no point, or no map.
pub form_refused : (m : Map) (bytes : List ℕ) {lines : List ℕ} (room : ℕ) (r : Refusal) → parse_point bytes ≡ PointParse.refused (refusal_of r) →
    PointReadAnswered (PointReadParsed m (parse_point bytes) room) lines lines (Err r)
form_refused m bytes room r e = refused_point r (rw e refl)

pub map_refused_lem : (map bytes : List ℕ) {lines : List ℕ} (room : ℕ) (r : Refusal) → decode map ≡ MapAnswer.refused (refusal_of r) →
    PointReadAnswered (PointReadMap (decode map) bytes room) lines lines (Err r)
map_refused_lem map bytes room r e = refused_point r (rw e refl)

-- The whole call.
pub called : (mb ref before : List ℕ) {after work work' : List ℕ} {a : PointReadAnswer} → (length work < work_length → (a ≡ Err why.WorkAreaShort) × (after ≡ before)) →
    (work_length ≤ length work → PointReadAnswered (PointReadMap (decode mb) ref (length before)) before after a) → work' ≡ cleared work →
    PointReadCall mb ref work before a work' after
unfolding refusal_of
called mb ref before short ran e =
    record {
      called = Answering.stepped PointReadOutcome.refused (λ m. PointReadParsed m (parse_point ref) (length before)) mb (refused_point why.WorkAreaShort refl) short ran e;
    }
