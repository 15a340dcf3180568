-- "Promises over several calls run from an empty start with these calls only and nothing else writing" (W9): the promise, proved of any list of calls since a
-- message was started on a map (W10).
use Prim.Native.Nat.{ℕ, ◌≤◌}
use mathlib.Core.Path.{◌≡◌, sym, ◌∙◌, ap, subst}
use mathlib.Core.Bool.{true}
use mathlib.Core.List.{List, [], ◌++◌, append_assoc}
use native.Mathlib.Omega.{arith}
use lib.ListN.{length, take, drop, get_or, length-append}
use lib.Seq.{take-append_seam}
use Rattle.model.specs.declared.Message.{Message}
use Rattle.model.specs.Work.{placed}
use Rattle.model.specs.Front.{map_sum, front_bytes, same_map}
use Rattle.model.specs.Message.{framed, framed_all, listed, reference_number}
use Rattle.model.specs.MessageCall.{finished_bytes, finished_number}
use Rattle.model.specs.MessageHistory.{Content, whole, partial, finished, finished_of, content_bytes, Call, after, History, begun, then, not_started, Begun, room, state_of, MessageHistories}
use Rattle.model.proofs.Every.{Every}
use Rattle.model.proofs.Fronts.{front_back, passes}
use Rattle.message_laws.proofs.Framing.{Proper, listed_framed}
use Rattle.message_laws.proofs.Steps.{Sound, whole_sound, partial_sound, Holds, step}
use Rattle.message_laws.proofs.Lasting.{lasts, joined}
use Rattle.message_laws.proofs.Started.{start_so, start_holds, refused_start}

-- After any calls the buffer holds what they make of the message that was started.
since : {mb b₀ m₀-bytes : List ℕ} {m₀ : Message} {calls : List Call} {m : Message} {buffer : List ℕ} → Holds mb b₀ (whole []) m₀ m₀-bytes →
    History m₀ m₀-bytes calls m buffer → Holds mb b₀ (after mb (room b₀) calls) m buffer
unfolding after
since h begun = h
since h (then earlier call) = (step (since h earlier) call).holds
since {mb} {b₀} {calls = calls} {m = m} h (not_started earlier call) =
    subst (Holds mb b₀ (after mb (room b₀) calls) m) (sym (refused_start call)) (since h earlier)

pub holding : {mb b₀ : List ℕ} {calls : List Call} {m : Message} {buffer : List ℕ} → Begun mb b₀ calls m buffer →
    Holds mb b₀ (after mb (room b₀) calls) m buffer
holding b = since (start_holds (start_so b.start)) b.since

within : {mb : List ℕ} {room : ℕ} {c : Content} → Sound mb room c → length (content_bytes mb c) ≤ room
unfolding content_bytes
within (whole_sound p h) = h
within (partial_sound p short h) = h

-- The finished references alone, whether one is open or not.
pub proper : {mb : List ℕ} {room : ℕ} {c : Content} → Sound mb room c → Every Proper (finished c)
proper (whole_sound p h) = p
proper (partial_sound p short h) = p

finished_shorter : (mb : List ℕ) (c : Content) → length (finished_of mb (finished c)) ≤ length (content_bytes mb c)
unfolding content_bytes
finished_shorter mb (whole rs) = omega arith
finished_shorter mb (partial rs bs) = omega (arith, length-append (finished_of mb rs) (framed bs))

finished_first : (mb b₀ : List ℕ) (c : Content) (m : Message) (buffer : List ℕ) → m ≡ state_of mb c → buffer ≡ placed (content_bytes mb c) b₀ →
    take (finished_bytes m) buffer ≡ finished_of mb (finished c)
unfolding state_of content_bytes placed
finished_first mb b₀ (whole rs) m buffer is held = rw (is, held) (take-append_seam (finished_of mb rs) (drop (length (finished_of mb rs)) b₀))
finished_first mb b₀ (partial rs bs) m buffer is held =
    let rest = drop (length (finished_of mb rs ++ framed bs)) b₀ in
    rw (is, held ∙ append_assoc (finished_of mb rs) (framed bs) rest) (take-append_seam (finished_of mb rs) (framed bs ++ rest))

module _ {mb b₀ : List ℕ} {calls : List Call} {m : Message} {buffer : List ℕ} (b : Begun mb b₀ calls m buffer) where
  pub first : take (finished_bytes m) buffer ≡ front_bytes mb ++ framed_all (finished (after mb (room b₀) calls))
  unfolding finished_of
  first =
      let h = holding b in
      finished_first mb b₀ (after mb (room b₀) calls) m buffer h.state h.bytes

  -- "What is received is what was sent": the finished bytes list what was closed.
  received : listed (take (finished_bytes m) buffer) ≡ finished (after mb (room b₀) calls)
  unfolding finished_of
  received =
      let h = holding b in
      let c = after mb (room b₀) calls in
      let short : length (front_bytes mb ++ framed_all (finished c)) ≤ 16_384 = omega (arith, finished_shorter mb c, within h.sound) in
      ap listed first
      ∙ listed_framed (front_bytes mb ++ framed_all (finished c)) (length mb) (map_sum mb) (finished c)
      (front_back mb (framed_all (finished c)) (start_so b.start).few) short (proper h.sound)

  numbered : (n : ℕ) → finished_number m buffer n ≡ get_or (finished (after mb (room b₀) calls)) n []
  unfolding finished_number reference_number
  numbered n = ap (λ (rs : List (List ℕ)). get_or rs n []) received

  -- A message that was started on a map passes the readers' test there at all times.
  passing : same_map mb (take (finished_bytes m) buffer) ≡ true
  passing = ap (same_map mb) first ∙ passes mb (framed_all (finished (after mb (room b₀) calls))) (start_so b.start).few

-- Calls after calls.
longer : {mb b₀ : List ℕ} {calls later : List Call} {m m' : Message} {buffer buffer' : List ℕ} → Begun mb b₀ calls m buffer →
    History m buffer later m' buffer' → Begun mb b₀ (later ++ calls) m' buffer'
longer b more = record { work = b.work; work' = b.work'; m₀ = b.m₀; b₁ = b.b₁; start = b.start; since = joined b.since more }

pub message_histories : MessageHistories
unfolding MessageHistories
message_histories mb b₀ calls m buffer b =
    let h = holding b in
    record {
      state = h.state;
      bytes = h.bytes;
      within = within h.sound;
      answers = λ call. (step h call).tells;
      numbered = numbered b;
      lasting = λ {later} more n there. numbered (longer b more) n ∙ lasts mb (room b₀) later calls n there ∙ sym (numbered b n);
      received = received b;
      passes = passing b;
    }
