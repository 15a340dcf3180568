-- "What is promised on reading back then holds only where the maps are the same bytes" (W10): there it holds, for every reference that was written, added to a
-- message and closed, whatever was called before and since. The claim over calls.
use Prim.Native.Nat.{ℕ}
use mathlib.Core.Path.{◌≡◌, refl, sym, ◌∙◌, ap, subst}
use mathlib.Core.Bool.{Bool, true, false, cond, ◌&&◌}
use mathlib.Core.List.{List, [], ◌∷◌, ◌++◌}
use native.Mathlib.Omega.{arith}
use lib.ListN.{length, take, drop, get_or, length-append}
use lib.Seq.{take_at, get_or-append_seam}
use lib.Dec.{leb}
use Rattle.model.specs.declared.Span.{Span}
use Rattle.model.specs.declared.Message.{Message}
use Rattle.std.specs.Prelude.{Ok}
use Rattle.model.specs.Stretch.{Stretch}
use Rattle.model.specs.Reference.{longest_reference, parse}
use Rattle.model.specs.Work.{placed}
use Rattle.model.specs.Outcome.{ReadOutcome, ReadParsed, WriteOutcome, written, Writes}
use Rattle.model.specs.Call.{bytes_after, WriteCall}
use Rattle.model.specs.PointAlong.{GivenPoint, parse_point, PointReadOutcome, PointReadParsed, PointWriteOutcome, PointWrites, point_bytes_after, PointWriteCall}
use Rattle.model.specs.Demand3.{ReadAs, ReadBack}
use Rattle.model.specs.PointTrip.{PointReadAs, PointBack}
use Rattle.model.specs.Front.{same_map}
use Rattle.model.specs.Message.{reference_number}
use Rattle.model.specs.MessageCall.{finished_bytes, finished_number}
use Rattle.model.specs.MessageHistory.{Content, whole, partial, finished, content_bytes, Call, opens, adds, closes, done, refused, lengthened, outcome, left, after, Made, then, Begun, room, AnswerTells, MessageHistories}
use Rattle.model.specs.MessageTrip.{ReadOutAs, PointReadOutAs, Sent, MessageTrip}
use Rattle.model.proofs.Answering.{told_written, told_point}
use Rattle.model.proofs.Demand3.{demand3}
use Rattle.model.proofs.PointTrip.{point_trip}
use Rattle.model.proofs.OfMessage.{by_itself, out_of_it}
use Rattle.message_laws.proofs.Histories.{message_histories}
use Rattle.message_laws.proofs.Told.{not_refused}
use Rattle.model.specs.Answer.{bytes_written}

-- ---- opening, adding and closing

-- What an addition makes of a message with an empty reference open, where closing it then is not refused.
closed_so : (mb : List ℕ) (room : ℕ) (rs : List (List ℕ)) (bytes : List ℕ) (m' : Message) (c : Content) →
    c ≡ left (partial rs []) (outcome mb room (partial rs []) (adds bytes)) → AnswerTells mb (Ok m') (outcome mb room c closes) →
    left c (outcome mb room c closes) ≡ whole (rs ++ bytes ∷ [])
unfolding outcome left lengthened
closed_so mb room rs bytes m' c e t =
    go (leb (length bytes) longest_reference && leb (length (content_bytes mb (partial rs bytes))) room) bytes e
  where
    nothing : c ≡ partial rs [] → ⊥
    nothing e = not_refused mb m' 27 (subst (λ (c : Content). AnswerTells mb (Ok m') (outcome mb room c closes)) e t)

    go : (t : Bool) (bs : List ℕ) → c ≡ left (partial rs []) (cond t (done (partial rs bs)) (refused 28)) →
        left c (outcome mb room c closes) ≡ whole (rs ++ bs ∷ [])
    go true [] e = absurd (nothing e)
    go true (b ∷ bs) e = ap (λ (c : Content). left c (outcome mb room c closes)) e
    go false bs e = absurd (nothing e)

put_so : (mb b₀ : List ℕ) (calls : List Call) (m : Message) (buffer : List ℕ) (rs : List (List ℕ)) (bytes : List ℕ) →
    Begun mb b₀ (adds bytes ∷ opens ∷ calls) m buffer → after mb (room b₀) calls ≡ whole rs → (m' : Message) (buffer' : List ℕ) →
    Made m buffer closes (Ok m') buffer' → Sent mb bytes (length rs) (take (finished_bytes m') buffer')
unfolding after left outcome MessageHistories
put_so mb b₀ calls m buffer rs bytes b is m' buffer' made =
    let before = after mb (room b₀) (adds bytes ∷ opens ∷ calls) in
    let added : before ≡ left (partial rs []) (outcome mb (room b₀) (partial rs []) (adds bytes)) =
    ap (λ (c : Content). left (left c (outcome mb (room b₀) c opens)) (outcome mb (room b₀) (left c (outcome mb (room b₀) c opens)) (adds bytes))) is in
    let all : after mb (room b₀) (closes ∷ adds bytes ∷ opens ∷ calls) ≡ whole (rs ++ bytes ∷ []) =
    closed_so mb (room b₀) rs bytes m' before added ((message_histories mb b₀ (adds bytes ∷ opens ∷ calls) m buffer b).answers made) in
    record {
      b₀ = b₀;
      calls = closes ∷ adds bytes ∷ opens ∷ calls;
      m = m';
      buffer = buffer';
      begun = record { work = b.work; work' = b.work'; m₀ = b.m₀; b₁ = b.b₁; start = b.start; since = then b.since made };
      there = rw all (omega (arith, length-append rs (bytes ∷ [])));
      closed = ap (λ (c : Content). get_or (finished c) (length rs) []) all ∙ get_or-append_seam rs bytes [] [];
      message_is = refl;
    }

-- ---- what was sent is there, and passes the readers' test

module _ {mb bytes : List ℕ} {n : ℕ} {message : List ℕ} (sent : Sent mb bytes n message) where
  pub sent_there : reference_number n message ≡ bytes
  unfolding finished_number MessageHistories
  sent_there =
      ap (reference_number n) sent.message_is
      ∙ (message_histories mb sent.b₀ sent.calls sent.m sent.buffer sent.begun).numbered n ∙ sent.closed

  pub sent_passes : same_map mb message ≡ true
  unfolding MessageHistories
  sent_passes =
      ap (same_map mb) sent.message_is ∙ (message_histories mb sent.b₀ sent.calls sent.m sent.buffer sent.begun).passes

-- Then reading out of the message is reading the reference by itself.
pub lines_out : {mb message bytes lines : List ℕ} {pos neg : Span} → same_map mb message ≡ true → ReadAs mb bytes lines pos neg →
    ReadOutAs mb message bytes lines pos neg
lines_out {mb} {message} {bytes} {lines} {pos} {neg} e r =
    record {
      accepts =
          λ work room full enough.
          out_of_it ReadOutcome.refused (λ m. ReadParsed m (parse bytes) room) mb message e work (ReadOutcome.read lines pos neg)
          (r.accepts work room full enough);
      nothing_else =
          λ work room o full enough h.
          r.nothing_else work room o full enough (by_itself ReadOutcome.refused (λ m. ReadParsed m (parse bytes) room) mb message e work o h);
    }

pub point_out : {mb message bytes : List ℕ} {p : GivenPoint} {span : Span} → same_map mb message ≡ true → PointReadAs mb bytes p span →
    PointReadOutAs mb message bytes p span
point_out {mb} {message} {bytes} e r =
    record {
      accepts =
          λ work room full enough.
          out_of_it PointReadOutcome.refused (λ m. PointReadParsed m (parse_point bytes) room) mb message e work _ (r.accepts work room full enough);
      nothing_else =
          λ work room o full enough h.
          r.nothing_else work room o full enough (by_itself PointReadOutcome.refused (λ m. PointReadParsed m (parse_point bytes) room) mb message e work o h);
    }

-- ---- what was written

-- The bytes that a writer's call answered stand first in the buffer.
first_bytes : (bs before after : List ℕ) (count : ℕ) → length bs ≡ count → after ≡ placed bs before → take count after ≡ bs
unfolding placed
first_bytes bs before after count size e = ap (take count) e ∙ take_at bs (drop (length bs) before) count size

wrote : {mb : List ℕ} {s : Stretch} {tests : ℕ} {work before work' bytes : List ℕ} {count made excess : ℕ} →
    WriteCall mb s tests work before (Ok (bytes_written count made excess)) work' bytes →
    Writes mb s tests (length work) (length before) (written (take count bytes) made excess)
unfolding bytes_after
wrote {mb} {s} {tests} {work} {before} {bytes = bytes} {count} {made} {excess} call =
    let d = call.called.answered in
    let t = told_written d.answers refl in
    let first : take count bytes ≡ t.0 = first_bytes t.0 before bytes count t.2 (d.buffer_after ∙ ap (λ (o : WriteOutcome). bytes_after o before) t.1) in
    subst (Writes mb s tests (length work) (length before)) (t.1 ∙ ap (λ (l : List ℕ). written l made excess) (sym first)) d.asked

wrote_point : {mb : List ℕ} {p : GivenPoint} {work before work' bytes : List ℕ} {count : ℕ} →
    PointWriteCall mb p work before (Ok count) work' bytes →
    PointWrites mb p (length work) (length before) (PointWriteOutcome.written (take count bytes))
unfolding point_bytes_after
wrote_point {mb} {p} {work} {before} {bytes = bytes} {count} call =
    let d = call.called.answered in
    let t = told_point d.answers refl in
    let first : take count bytes ≡ t.0 =
    first_bytes t.0 before bytes count t.2 (d.buffer_after ∙ ap (λ (o : PointWriteOutcome). point_bytes_after o before) t.1) in
    subst (PointWrites mb p (length work) (length before)) (t.1 ∙ ap PointWriteOutcome.written (sym first)) d.asked

-- ---- the claim

pub message_trip : MessageTrip
message_trip =
    record {
      put = put_so;
      back =
          λ mb message n s tests work before work' bytes count made excess call sent.
          let b = demand3.back mb (take count bytes) s tests (length work) (length before) made excess (wrote call) in
          let back = subst (ReadBack mb s tests) (sym (sent_there sent)) b in
          record { back = back; reads = lines_out (sent_passes sent) back.reads };
      alike =
          λ mb message message' n n' s t tests tests' w b w' bytes v c v' bytes' count made excess count' made' excess' call call' sent sent' same.
          let here : take count bytes ≡ reference_number n message = sym (sent_there sent) in
          let other : take count' bytes' ≡ reference_number n message = sym (sent_there sent') ∙ sym same in
          demand3.alike mb (reference_number n message) s t tests tests' (length w) (length v) (length b) (length c) made made' excess excess'
          (subst (λ (l : List ℕ). Writes mb s tests (length w) (length b) (written l made excess)) here (wrote call))
          (subst (λ (l : List ℕ). Writes mb t tests' (length v) (length c) (written l made' excess')) other (wrote call'));
      point_back =
          λ mb message n p work before work' bytes count call sent.
          let b = point_trip.back mb (take count bytes) p (length work) (length before) (wrote_point call) in
          let back = subst (PointBack mb p) (sym (sent_there sent)) b in
          record { back = back; reads = point_out (sent_passes sent) back.reads };
      point_alike =
          λ mb message message' n n' p q w b w' bytes v c v' bytes' count count' call call' sent sent' same.
          let here : take count bytes ≡ reference_number n message = sym (sent_there sent) in
          let other : take count' bytes' ≡ reference_number n message = sym (sent_there sent') ∙ sym same in
          point_trip.alike mb (reference_number n message) p q (length w) (length v) (length b) (length c)
          (subst (λ (l : List ℕ). PointWrites mb p (length w) (length b) (PointWriteOutcome.written l)) here (wrote_point call))
          (subst (λ (l : List ℕ). PointWrites mb q (length v) (length c) (PointWriteOutcome.written l)) other (wrote_point call'));
    }
