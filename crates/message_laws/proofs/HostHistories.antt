-- The promise over several calls of a C host: its calls are those of the definitions, each with the message that it means (W9, W10).
use Prim.Native.Nat.{ℕ, ◌+◌, ◌≤◌}
use mathlib.Core.Path.{◌≡◌, refl, sym, ◌∙◌, ap, subst}
use mathlib.Core.Bool.{Bool, true, false, cond}
use mathlib.Core.List.{List}
use native.Mathlib.Omega.{arith}
use lib.ListN.{length, take, drop, replicate, length-drop, length-replicate, take-append-drop}
use lib.Seq.{take-append-le, drop-append-le}
use lib.Dec.{leb, eqb}
use Rattle.model.specs.declared.Message.{Message}
use Rattle.model.specs.declared.Message.TheVariants.{Closed, Open}
use Rattle.model.specs.Answer.{MessageAnswer}
use Rattle.std.specs.Prelude.{Ok, Err}
use Rattle.model.specs.Refusal.{Refused, row}
use Rattle.model.specs.Work.{work_length, cleared}
use Rattle.model.specs.Front.{front_bytes}
use Rattle.model.specs.Message.{reference_number, start_of_number}
use Rattle.model.specs.MessageStart.{StartOutcome, started, start_on, Starts, StartAnswers, buffer_started, StartCall}
use Rattle.model.specs.MessageCall.{finished_bytes, opening, closing, adding, finished_number}
use Rattle.model.specs.MessageHistory.{Call, CallOutcome, outcome, after, stays, Made, opened, added, closed, History, begun, then, Begun, room, state_of, AnswerTells, now, refusal, MessageHistories}
use Rattle.model.specs.HostMessage.{HostMessage, message_of, host_message, host_started, HostStartCall, host_part, HostMade, HostHistory, HostBegun, HostTells, HostMessageHistories}
use Rattle.model.proofs.Rows.{From, at, opens_rows}
use Rattle.message_laws.proofs.Parts.{placed_in}
use Rattle.message_laws.proofs.Histories.{message_histories}

-- The message that a host means after a call is the one that the call leaves.
meant : (given : HostMessage) (a : MessageAnswer) → message_of (host_message given a) ≡ stays (message_of given) a
unfolding message_of host_message
meant given (Ok (Closed finished)) = refl
meant given (Ok (Open finished count)) = refl
meant given (Err why) = refl

-- A host's call, and what it is to the definitions.
record Means (given : HostMessage) (buffer : List ℕ) (call : Call) (a : HostMessage) (buffer' : List ℕ) : Type 0 where
  answer : MessageAnswer
  told : a ≡ host_message given answer
  made : Made (message_of given) buffer call answer buffer'

means : {given : HostMessage} {buffer : List ℕ} {call : Call} {a : HostMessage} {buffer' : List ℕ} → HostMade given buffer call a buffer' →
    Means given buffer call a buffer'
means {given} (HostMade.opened e) = record { answer = opening (message_of given); told = e; made = opened refl }
means {given} {buffer} (HostMade.added {portion = portion} e) =
    record {
      answer = adding (message_of given) (length buffer) portion;
      told = e.answers;
      made = added (record { answers = refl; buffer_after = e.buffer_after });
    }
means {given} (HostMade.closed e) = record { answer = closing (message_of given); told = e; made = closed refl }

-- ---- starting

started_refusal : (bs : List ℕ) → (host_started (started bs)).refusal ≡ 0
unfolding host_started
started_refusal bs = refl

-- A refused start changes nothing.
start_refused : {mb buffer : List ℕ} {a : HostMessage} {buffer' : List ℕ} → HostStartCall mb buffer a buffer' → (a.refusal ≡ 0 → ⊥) → buffer' ≡ buffer
unfolding buffer_started
start_refused {buffer = buffer} {a = a} {buffer' = buffer'} call some = go call.answered.outcome call.answered.answers call.answered.buffer_after
  where
    go : (o : StartOutcome) → a ≡ host_started o → buffer' ≡ buffer_started o buffer → buffer' ≡ buffer
    go (started bs) e b = absurd (some (ap (λ (h : HostMessage). h.refusal) e ∙ started_refusal bs))
    go (StartOutcome.refused r) e b = b

same_refusal : (r s : Refused) → StartOutcome.refused r ≡ StartOutcome.refused s → r ≡ s
same_refusal r s e = cc

-- No refusal has the number 0.
start_rows : (mb : List ℕ) (work room : ℕ) (why : Refused) → Starts mb work room (StartOutcome.refused why) → From 1 28 why
unfolding start_on
start_rows mb work room why h =
    opens_rows StartOutcome.refused same_refusal (λ m. λ o. o ≡ start_on mb room) 28 why (λ m e. go (leb (length (front_bytes mb)) room) e) (omega arith) mb work h
  where
    go : (t : Bool) → StartOutcome.refused why ≡ cond t (started (front_bytes mb)) (StartOutcome.refused (row 28)) → From 1 28 why
    go true e = absurd (let z : ◌≡◌ {A = ℕ} 0 1 = cc in omega arith)
    go false e = rw (same_refusal why (row 28) e) (at 28 (omega arith) (omega arith))

-- The definitions' call has a work area, of which the host knows nothing.
area : List ℕ
area = replicate work_length 0

area_length : length area ≡ work_length
unfolding area
area_length = length-replicate {A = ℕ} work_length 0

meant_started : (bs : List ℕ) → message_of (host_started (started bs)) ≡ Closed (length bs)
unfolding message_of host_started
meant_started bs = refl

start_meant : {mb b₀ : List ℕ} {h₀ : HostMessage} {b₁ : List ℕ} → HostStartCall mb b₀ h₀ b₁ → h₀.refusal ≡ 0 →
    StartCall mb area b₀ (Ok (message_of h₀)) (cleared area) b₁
unfolding host_started
start_meant {mb} {b₀} {h₀} {b₁} call accepted =
    let d = call.answered in
    go d.outcome d.asked d.answers d.buffer_after
  where
    go : (o : StartOutcome) → Starts mb work_length (length b₀) o → h₀ ≡ host_started o → b₁ ≡ buffer_started o b₀ →
        StartCall mb area b₀ (Ok (message_of h₀)) (cleared area) b₁
    go (started bs) asked e b =
        record {
          called =
              record {
                answered =
                    record {
                      outcome = started bs;
                      asked = subst (λ (n : ℕ). Starts mb n (length b₀) (started bs)) (sym area_length) asked;
                      answers = rw (ap message_of e ∙ meant_started bs) StartAnswers.now;
                      buffer_after = b;
                    };
                work_after = refl;
              };
        }
    go (StartOutcome.refused r) asked e b =
        absurd (let least = (start_rows mb work_length (length b₀) r asked).least in omega (arith, accepted, ap (λ (h : HostMessage). h.refusal) e))

history : {h₀ : HostMessage} {b₀ : List ℕ} {h : HostMessage} {buffer : List ℕ} {calls : List Call} → HostHistory h₀ b₀ calls h buffer →
    History (message_of h₀) b₀ calls (message_of h) buffer
history HostHistory.begun = begun
history {h₀} {b₀ = b₀} {buffer = buffer} {calls = calls} (HostHistory.then {given = given} {a = a} earlier call) =
    let m = means call in
    subst (λ (k : Message). History (message_of h₀) b₀ calls k buffer) (sym (ap message_of m.told ∙ meant given m.answer))
    (then (history earlier) m.made)
history {h₀} {b₀ = b₀} {h = h} {calls = calls} (HostHistory.not_started earlier call some) =
    subst (History (message_of h₀) b₀ calls (message_of h)) (sym (start_refused call some)) (history earlier)

pub begun_meant : {mb b₀ : List ℕ} {calls : List Call} {h : HostMessage} {buffer : List ℕ} → HostBegun mb b₀ calls h buffer →
    Begun mb b₀ calls (message_of h) buffer
begun_meant b =
    record {
      work = area;
      work' = cleared area;
      m₀ = message_of b.h₀;
      b₁ = b.b₁;
      start = start_meant b.start b.accepted;
      since = history b.since;
    }

tells : (mb : List ℕ) (given : HostMessage) {answer : MessageAnswer} {o : CallOutcome} → AnswerTells mb answer o → HostTells mb (host_message given answer) o
unfolding host_message
tells mb given (now {c}) = (no_refusal (state_of mb c), meant given (Ok (state_of mb c)))
  where
    no_refusal : (m : Message) → (host_message given (Ok m)).refusal ≡ 0
    no_refusal (Closed finished) = refl
    no_refusal (Open finished count) = refl
tells mb given refusal = refl

-- The finished bytes are the ones that the host holds the count of.
pub finished_are : (h : HostMessage) → finished_bytes (message_of h) ≡ h.bytes
unfolding message_of
finished_are h = go (eqb h.is_open 0)
  where
    go : (t : Bool) → finished_bytes (cond t (Closed h.bytes) (Open h.bytes h.added)) ≡ h.bytes
    go true = refl
    go false = refl

-- A part that lies in the front of some bytes.
part_in_front : (j k m : ℕ) (xs : List ℕ) → j + k ≤ length (take m xs) → take k (drop j (take m xs)) ≡ take k (drop j xs)
part_in_front j k m xs h =
    let front = take m xs in
    let rest = drop m xs in
    sym
    (ap (λ (l : List ℕ). take k (drop j l)) (sym (take-append-drop m xs)) ∙ ap (take k) (drop-append-le j front rest (omega arith))
    ∙ take-append-le k (drop j front) rest (omega (arith, length-drop j front)))

pub host_message_histories : HostMessageHistories
unfolding HostMessageHistories MessageHistories host_part message_of finished_number
host_message_histories mb b₀ calls h buffer b =
    let p = message_histories mb b₀ calls (message_of h) buffer (begun_meant b) in
    record {
      promise = p;
      answers =
          λ {call} made.
          let m = means made in
          subst (λ (a : HostMessage). HostTells mb a (outcome mb (room b₀) (after mb (room b₀) calls) call)) (sym m.told)
          (tells mb h (p.answers m.made));
      parts =
          λ n.
          let cut = take h.bytes buffer in
          let at = placed_in n cut in
          sym (part_in_front (start_of_number n cut) (length (reference_number n cut)) h.bytes buffer (omega (arith, at.counted, at.inside)))
          ∙ at.itself ∙ ap (λ (k : ℕ). reference_number n (take k buffer)) (sym (finished_are h)) ∙ p.numbered n;
    }
