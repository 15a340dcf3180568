-- Reading out of a message (W10): on the map that its front tells of it is reading the reference by itself; on another it is 30, "after 23", whatever the
-- reference; and "a reference read by itself has no such numbers and never gets 30".
use Prim.Native.Nat.{ℕ, ◌≤◌}
use mathlib.Core.Path.{◌≡◌, sym, ◌∙◌, subst}
use mathlib.Core.Bool.{Bool, true, false}
use mathlib.Core.List.{List}
use native.Mathlib.Omega.{arith}
use lib.ListN.{length}
use borrow.Author.Tests.{le-ltb}
use Rattle.model.specs.Answer.{ReadAnswer, PointReadAnswer}
use Rattle.model.specs.Refusal.{Refused, row, number_of}
use Rattle.model.specs.Map.{Map, MapAnswer, whole, decode}
use Rattle.model.specs.Work.{work_length}
use Rattle.model.specs.Opening.{OnMap, OnArea, Opens}
use Rattle.model.specs.Reference.{parse}
use Rattle.model.specs.Outcome.{ReadOutcome, ReadParsed, Reads}
use Rattle.model.specs.PointAlong.{parse_point, PointReadOutcome, PointReadParsed, PointReads}
use Rattle.model.specs.Host.{host_room, HostRead, host_read, HostPoint, host_point}
use Rattle.model.specs.Front.{same_map}
use Rattle.model.specs.OfMessage.{OnFront, OpensOfMessage, ReadsOfMessage, PointReadsOfMessage, ReadOfMessageCall, PointReadOfMessageCall, HostReadOfMessageCall, HostPointReadOfMessageCall}
use Rattle.model.proofs.Opened.{opens_once, opens_by}
use Rattle.model.proofs.Rows.{read_rows}
use Rattle.model.proofs.PointRows.{point_read_rows}
use Rattle.model.proofs.Once.{read_parsed_same}
use Rattle.model.proofs.PointReading.{parsed_same}
use Rattle.model.proofs.CallsOnce.{answered_once, called_once, read_told, point_told, given_told}

-- ---- what any reader asks

module _ {Outcome : Type 0} (refused : Refused → Outcome) (Asks : Map → Outcome → Type 0) (mb message : List ℕ) where
  -- The front is this map's: the question is that of a reference by itself.
  pub by_itself : same_map mb message ≡ true → (work : ℕ) (o : Outcome) → OpensOfMessage refused Asks mb message work o → Opens refused Asks mb work o
  by_itself e work o h =
      opens_by refused (λ m. OnFront refused (Asks m) (same_map mb message)) Asks mb
      (λ m _ asked. subst (λ (t : Bool). OnFront refused (Asks m) t o) e asked) work h

  pub out_of_it : same_map mb message ≡ true → (work : ℕ) (o : Outcome) → Opens refused Asks mb work o → OpensOfMessage refused Asks mb message work o
  out_of_it e work o h =
      opens_by refused Asks (λ m. OnFront refused (Asks m) (same_map mb message)) mb
      (λ m _ asked. subst (λ (t : Bool). OnFront refused (Asks m) t o) (sym e) asked) work h

  -- It is not, and the map and the work area are not refused.
  pub other_front : same_map mb message ≡ false → (m : Map) → decode mb ≡ whole m → (work : ℕ) → work_length ≤ work → (o : Outcome) →
      OpensOfMessage refused Asks mb message work o → o ≡ refused (row 30)
  other_front e m d work full o h =
      subst (λ (t : Bool). OnFront refused (Asks m) t o) e
      (subst (λ (a : MapAnswer). OnMap refused (λ m. OnFront refused (Asks m) (same_map mb message)) a o) d
      (subst (λ (t : Bool). OnArea refused (λ m. OnFront refused (Asks m) (same_map mb message)) t mb o) (le-ltb work work_length full) h))

  once_on : (t : Bool) (m : Map) {o o' : Outcome} → (Asks m o → Asks m o' → o ≡ o') → OnFront refused (Asks m) t o → OnFront refused (Asks m) t o' → o ≡ o'
  once_on true m once h h' = once h h'
  once_on false m once h h' = h ∙ sym h'

  pub of_message_once : {o o' : Outcome} → ((m : Map) → Asks m o → Asks m o' → o ≡ o') → (work : ℕ) → OpensOfMessage refused Asks mb message work o →
      OpensOfMessage refused Asks mb message work o' → o ≡ o'
  of_message_once once work h h' =
      opens_once refused (λ m. OnFront refused (Asks m) (same_map mb message)) (λ m. once_on (same_map mb message) m (once m)) mb work h h'

-- ---- the readers

module _ (mb message ref : List ℕ) (room : ℕ) where
  pub reads_of_message_once : (o o' : ReadOutcome) (work : ℕ) → ReadsOfMessage mb message ref work room o → ReadsOfMessage mb message ref work room o' → o ≡ o'
  reads_of_message_once o o' work h h' =
      of_message_once ReadOutcome.refused (λ m. ReadParsed m (parse ref) room) mb message (λ m. read_parsed_same mb ref room m (parse ref)) work h h'

  pub point_reads_of_message_once : (o o' : PointReadOutcome) (work : ℕ) → PointReadsOfMessage mb message ref work room o →
      PointReadsOfMessage mb message ref work room o' → o ≡ o'
  point_reads_of_message_once o o' work h h' =
      of_message_once PointReadOutcome.refused (λ m. PointReadParsed m (parse_point ref) room) mb message (λ m. parsed_same mb ref room m (parse_point ref)) work h h'

-- "A reference read by itself has no such numbers and never gets 30."
pub never_30 : (mb ref : List ℕ) (work room : ℕ) (why : Refused) → Reads mb ref work room (ReadOutcome.refused why) → number_of why ≡ 30 → ⊥
never_30 mb ref work room why h e = omega (arith, (read_rows mb ref work room why h).greatest)

pub point_never_30 : (mb ref : List ℕ) (work room : ℕ) (why : Refused) → PointReads mb ref work room (PointReadOutcome.refused why) → number_of why ≡ 30 → ⊥
point_never_30 mb ref work room why h e = omega (arith, (point_read_rows mb ref work room why h).greatest)

-- ---- a call is told by what it is given

pub read_of_message_call_once : {mb message ref work before : List ℕ} {a b : ReadAnswer} {work' work'' after after' : List ℕ} →
    ReadOfMessageCall mb message ref work before a work' after → ReadOfMessageCall mb message ref work before b work'' after' →
    (a ≡ b) × (work' ≡ work'') × (after ≡ after')
read_of_message_call_once {mb} {message} {ref} {work} {before} c d =
    called_once (λ o o'. reads_of_message_once mb message ref (length before) o o' (length work)) (λ o o'. read_told {o = o} {o' = o'}) c.called d.called

pub point_read_of_message_call_once : {mb message ref work before : List ℕ} {a b : PointReadAnswer} {work' work'' after after' : List ℕ} →
    PointReadOfMessageCall mb message ref work before a work' after → PointReadOfMessageCall mb message ref work before b work'' after' →
    (a ≡ b) × (work' ≡ work'') × (after ≡ after')
point_read_of_message_call_once {mb} {message} {ref} {work} {before} c d =
    called_once (λ o o'. point_reads_of_message_once mb message ref (length before) o o' (length work)) (λ o o'. point_told {o = o} {o' = o'}) c.called
    d.called

pub host_read_of_message_once : {mb message ref before : List ℕ} {a b : HostRead} {after after' : List ℕ} →
    HostReadOfMessageCall mb message ref before a after → HostReadOfMessageCall mb message ref before b after' → (a ≡ b) × (after ≡ after')
host_read_of_message_once {mb} {message} {ref} {before} c d =
    answered_once (λ o o'. reads_of_message_once mb message ref (host_room (length before)) o o' work_length) (given_told host_read) c.answered d.answered

pub host_point_read_of_message_once : {mb message ref before : List ℕ} {a b : HostPoint} {after after' : List ℕ} →
    HostPointReadOfMessageCall mb message ref before a after → HostPointReadOfMessageCall mb message ref before b after' → (a ≡ b) × (after ≡ after')
host_point_read_of_message_once {mb} {message} {ref} {before} c d =
    answered_once (λ o o'. point_reads_of_message_once mb message ref (host_room (length before)) o o' work_length) (given_told host_point)
    c.answered d.answered
