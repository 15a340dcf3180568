-- Starting a message: "starting a message in a buffer too short for them gives 28, after the map's own 1 to 6, 23 and 24" (W10). What an answered start leaves, and
-- that a refused one changes nothing.
use Prim.Native.Nat.{ℕ, ◌≤◌, ◌<◌, ◌^◌}
use mathlib.Core.Path.{◌≡◌, refl, sym, ◌∙◌, ap, subst}
use mathlib.Core.Bool.{Bool, true, false, cond}
use mathlib.Core.List.{List, [], append-nil}
use native.Mathlib.Omega.{arith}
use lib.ListN.{length}
use lib.Dec.{leb}
use borrow.Author.Tests.{leb-true, le-leb, lt-leb, le-ltb}
use Rattle.model.specs.declared.Refusal.{Refusal}
use Rattle.model.specs.declared.Message.{Message}
use Rattle.model.specs.declared.Message.TheVariants.{Closed}
use Rattle.model.specs.Answer.{MessageAnswer}
use Rattle.std.specs.Prelude.{Ok, Err}
use Rattle.model.specs.Refusal.{Refused, row, refusal_of}
use Rattle.model.specs.Map.{Map, MapAnswer, whole, decode}
use Rattle.model.specs.Work.{work_length, placed}
use Rattle.model.specs.Opening.{OnMap, OnArea}
use Rattle.model.specs.Front.{front_bytes}
use Rattle.model.specs.Message.{framed_all}
use Rattle.model.specs.MessageStart.{StartOutcome, started, start_on, Starts, StartAnswers, now, refusal, buffer_started, StartCall}
use Rattle.model.specs.MessageHistory.{Content, finished_of, content_bytes, room, state_of}
use Rattle.model.proofs.Every.{none}
use Rattle.model.proofs.Opened.{opened}
use Rattle.model.proofs.MapLengths.{map_few}
use Rattle.model.proofs.Fronts.{front_few}
use Rattle.message_laws.proofs.Steps.{whole_sound, Holds}

-- What an answered start leaves.
pub record Start (mb b₀ : List ℕ) (m₀ : Message) (b₁ : List ℕ) : Type 0 where
  pub map : Map
  pub decodes : decode mb ≡ whole map
  pub state : m₀ ≡ Closed (length (front_bytes mb))
  pub bytes : b₁ ≡ placed (front_bytes mb) b₀
  pub fits : length (front_bytes mb) ≤ length b₀
  pub few : length mb < 2 ^ 32

-- ---- an answer that is no refusal

told_started : {a : MessageAnswer} {o : StartOutcome} {m : Message} → StartAnswers a o → a ≡ Ok m →
    (bs : List ℕ) × (o ≡ started bs) × (m ≡ Closed (length bs))
told_started {m = m} (now {bs = bs}) e = let is : Closed (length bs) ≡ m = cc in (bs, refl, sym is)
told_started refusal e = absurd (let z : ◌≡◌ {A = ℕ} 0 1 = cc in omega arith)

not_refused : (bs : List ℕ) (r : Refused) → started bs ≡ StartOutcome.refused r → ⊥
not_refused bs r e = let z : ◌≡◌ {A = ℕ} 0 1 = cc in omega arith

on_map : (mb : List ℕ) (room : ℕ) (bs : List ℕ) → started bs ≡ start_on mb room → (bs ≡ front_bytes mb) × (length (front_bytes mb) ≤ room)
unfolding start_on
on_map mb room bs e = go (leb (length (front_bytes mb)) room) refl e
  where
    go : (t : Bool) → leb (length (front_bytes mb)) room ≡ t → started bs ≡ cond t (started (front_bytes mb)) (StartOutcome.refused (row 28)) →
        (bs ≡ front_bytes mb) × (length (front_bytes mb) ≤ room)
    go true t e = let same : bs ≡ front_bytes mb = cc in (same, leb-true (length (front_bytes mb)) room t)
    go false t e = absurd (not_refused bs (row 28) e)

pub start_so : {mb work b₀ work' b₁ : List ℕ} {m₀ : Message} → StartCall mb work b₀ (Ok m₀) work' b₁ → Start mb b₀ m₀ b₁
unfolding buffer_started
start_so {mb} {work} {b₀} {work'} {b₁} call =
    let d = call.called.answered in
    let t = told_started d.answers refl in
    let bs = t.0 in
    let asked = subst (Starts mb (length work) (length b₀)) t.1 d.asked in
    let on = opened StartOutcome.refused (λ m. λ o. o ≡ start_on mb (length b₀)) {o = started bs} mb (not_refused bs) (length work) asked in
    let front = on_map mb (length b₀) bs on.2 in
    let few = map_few mb on.0 on.1 in
    record {
      map = on.0;
      decodes = on.1;
      state = t.2 ∙ ap (λ (l : List ℕ). Closed (length l)) front.0;
      bytes = d.buffer_after ∙ ap (λ (o : StartOutcome). buffer_started o b₀) t.1 ∙ ap (λ (l : List ℕ). placed l b₀) front.0;
      fits = front.1;
      few = omega arith;
    }

-- A message that was just started is what its buffer holds.
pub start_holds : {mb b₀ b₁ : List ℕ} {m₀ : Message} → Start mb b₀ m₀ b₁ → Holds mb b₀ (Content.whole []) m₀ b₁
unfolding state_of content_bytes finished_of framed_all
start_holds {mb} {b₀} s =
    let alone = append-nil (front_bytes mb) in
    let few = front_few mb s.map s.decodes in
    record {
      sound = whole_sound none (rw alone (omega (arith, s.fits)));
      state = s.state ∙ ap (λ (l : List ℕ). Closed (length l)) (sym alone);
      bytes = s.bytes ∙ ap (λ (l : List ℕ). placed l b₀) (sym alone);
    }

-- ---- a refusal

told_refused : {a : MessageAnswer} {o : StartOutcome} {why : Refusal} → StartAnswers a o → a ≡ Err why → (r : Refused) × (o ≡ StartOutcome.refused r)
told_refused now e = absurd (let z : ◌≡◌ {A = ℕ} 0 1 = cc in omega arith)
told_refused (refusal {why = v}) e = (refusal_of v, refl)

-- "A refused start changes nothing": the message under way goes on.
pub refused_start : {mb work buffer work' buffer' : List ℕ} {why : Refusal} → StartCall mb work buffer (Err why) work' buffer' → buffer' ≡ buffer
unfolding buffer_started
refused_start {buffer = buffer} call =
    let d = call.called.answered in
    let t = told_refused d.answers refl in
    d.buffer_after ∙ ap (λ (o : StartOutcome). buffer_started o buffer) t.1

-- ---- when it is refused

-- On bytes that are a map, with a full work area: the front stands first in the buffer, or 28 where it does not fit.
on_area : (mb : List ℕ) (m : Map) → decode mb ≡ whole m → (work room : ℕ) → work_length ≤ work → (o : StartOutcome) → Starts mb work room o → o ≡ start_on mb room
on_area mb m d work room full o h =
    subst (λ (a : MapAnswer). OnMap StartOutcome.refused (λ m. λ o. o ≡ start_on mb room) a o) d
    (subst (λ (t : Bool). OnArea StartOutcome.refused (λ m. λ o. o ≡ start_on mb room) t mb o) (le-ltb work work_length full) h)

pub too_short_28 : (mb : List ℕ) (m : Map) → decode mb ≡ whole m → (work room : ℕ) → work_length ≤ work → room < length (front_bytes mb) →
    (o : StartOutcome) → Starts mb work room o → o ≡ StartOutcome.refused (row 28)
unfolding start_on
too_short_28 mb m d work room full short o h = on_area mb m d work room full o h ∙ rw (start_on, lt-leb (length (front_bytes mb)) room short)

pub long_enough : (mb : List ℕ) (m : Map) → decode mb ≡ whole m → (work room : ℕ) → work_length ≤ work → length (front_bytes mb) ≤ room →
    (o : StartOutcome) → Starts mb work room o → o ≡ started (front_bytes mb)
unfolding start_on
long_enough mb m d work room full enough o h = on_area mb m d work room full o h ∙ rw (start_on, le-leb (length (front_bytes mb)) room enough)

-- "After the map's own 1 to 6, 23 and 24": what is no map is refused so, whatever the buffer.
pub map_first : (mb : List ℕ) (r : Refused) → decode mb ≡ MapAnswer.refused r → (work room : ℕ) → work_length ≤ work → (o : StartOutcome) →
    Starts mb work room o → o ≡ StartOutcome.refused r
map_first mb r d work room full o h =
    subst (λ (a : MapAnswer). OnMap StartOutcome.refused (λ m. λ o. o ≡ start_on mb room) a o) d
    (subst (λ (t : Bool). OnArea StartOutcome.refused (λ m. λ o. o ≡ start_on mb room) t mb o) (le-ltb work work_length full) h)
