-- Answers to the definitions' questions, put together from those of the parts.
use Prim.Native.Nat.{ℕ, ◌≤◌, ◌<◌}
use mathlib.Core.Path.{◌≡◌, refl, sym}
use mathlib.Core.Bool.{Bool, true, false}
use mathlib.Core.List.{List}
use native.Mathlib.Omega.{arith}
use lib.ListN.{length, take, drop}
use lib.Seq.{take_at}
use Rattle.model.specs.Map.{Map, MapAnswer, decode}
use Rattle.model.specs.Refusal.{refusal_of}
use Rattle.model.specs.Reference.{Reference, ParseAnswer, parse}
use Rattle.model.specs.Reading.{Leg, joined, banned_meeting}
use Rattle.model.specs.Locate.{located, no_node, locate}
use Rattle.model.specs.Outcome.{LegsRead, every, failed, ReadOutcome, read, ReadEnd, ReadJoined, ReadOn, no_point, no_leg, every_leg, ReadParsed, ReadMap}
use Rattle.model.specs.Work.{work_length, cleared, placed}
use Rattle.model.specs.Call.{lines_after, ReadAnswers, lines, refusal, ReadAnswered, ReadCall}
use Rattle.model.specs.declared.Refusal.{Refusal}
use Rattle.model.specs.declared.Span.{Span}
use Rattle.model.specs.declared.ReadLines.{ReadLines}
use Rattle.model.specs.Answer.{ReadAnswer, lines_read}
use Rattle.model.proofs.Legs.{legs_same}
use Rattle.model.proofs.Answering.{refused_read}
use Rattle.reference_legs.specs.declared.Sums.{Sums}
use Rattle.reference_legs.specs.Legs.{Laid, LegFails, LegsTell}
use Rattle.std.proofs.Common.{Result, Ok, Err, ap}
use Rattle.reader.specs.Ending.{Ended}
use Rattle.model.proofs.Answering as Answering
use Rattle.model.specs.Refusal as definitions
use Rattle.model.specs.declared.Refusal.TheVariants as why

-- ---- the lines

-- Lines that are kept from the start of a buffer.
pub kept_lines : (ls before kept : List ℕ) (count : ℕ) → length ls ≡ count → count ≤ length before → Laid ls before kept → take count kept ≡ ls
unfolding placed
kept_lines ls before kept count e fits laid = rw (laid (omega arith)) (take_at ls (drop (length ls) before) count e)

-- Legs that were read once are read the same way again.
module _ {m : Map} {legs : List Leg} {lists : List (List ℕ)} (once : LegsRead m 0 legs (every lists)) where
  not_failed : {n k : ℕ} → LegsRead m 0 legs (failed n k) → ⊥
  not_failed f = let same = legs_same once f in let z : ◌≡◌ {A = ℕ} 0 1 = cc in omega arith

  pub again : (before after : List ℕ) (r : Result Sums Refusal) → LegsTell m legs before after r → length (joined lists) ≤ length before →
      after ≡ placed (joined lists) before
  again before after (Ok s) t fits =
      let same = legs_same t.read once in
      let lists-same : t.lists ≡ lists = cc in
      rw lists-same at t.laid fits
  again before after (Err _) (LegFails.unread f) fits = absurd (not_failed f)
  again before after (Err _) (LegFails.several f) fits = absurd (not_failed f)

-- ---- an answer says whether a reference is read or refused

not_both : {a : ReadAnswer} {o : ReadOutcome} {q : definitions.Refused} {found : ReadLines} → ReadAnswers a o → a ≡ Ok found → o ≡ ReadOutcome.refused q → ⊥
not_both lines e f = absurd cc
not_both refusal e f = absurd cc

unchanged : {a : ReadAnswer} {o : ReadOutcome} {r : Refusal} (before : List ℕ) → ReadAnswers a o → a ≡ Err r → before ≡ lines_after o before
unfolding lines_after
unchanged before lines e = absurd cc
unchanged before refusal e = refl

count_of : {a : ReadAnswer} {o : ReadOutcome} {found : ReadLines} {ls : List ℕ} {pos neg : Span} → ReadAnswers a o → a ≡ Ok found → o ≡ read ls pos neg →
    length ls ≡ found.count
count_of {found = found} {ls = ls} (lines {ls = ks} {pos = p} {neg = n}) e f =
    let same : ks ≡ ls = cc in
    let all : lines_read (length ks) p n ≡ found = cc in
    rw (sym same) (ap (λ (x : ReadLines). x.count) all)
count_of refusal e f = absurd cc

-- An answer that a reference is read tells an outcome with all lines, for which there is room.
abbrev ReadAll : ℕ → List (List ℕ) → ReadOutcome → Type 0
ReadAll room lists o = (pos : Span) × (neg : Span) × (o ≡ read (joined lists) pos neg) × (length (joined lists) ≤ room)

module _ (m : Map) (r : Reference) (room : ℕ) (lists : List (List ℕ)) {a : ReadAnswer} {found : ReadLines} where
  end_read : (o : ReadOutcome) → ReadEnd m r room lists o → ReadAnswers a o → a ≡ Ok found → ReadAll room lists o
  end_read o (ReadEnd.no_pos x) h e = absurd (not_both h e refl)
  end_read o (ReadEnd.no_neg x) h e = absurd (not_both h e refl)
  end_read o (ReadEnd.too_far s x) h e = absurd (not_both h e refl)
  end_read o (ReadEnd.no_room s x y) h e = absurd (not_both h e refl)
  end_read o (ReadEnd.accepted {pos = pos} {neg = neg} s x y) h e = (pos, neg, refl, y)

  pub read_as : (o : ReadOutcome) (t : Bool) → ReadJoined t m r room lists o → ReadAnswers a o → a ≡ Ok found → ReadAll room lists o
  read_as o true j h e = absurd (not_both h e j)
  read_as o false j h e = end_read o j h e

-- ---- the answer for a reference taken apart, from those on its points and legs

module _ {m : Map} {r : Reference} {room : ℕ} where
  pub no_point_read : {lines : List ℕ} {given : Refusal} {k : ℕ} → given ≡ why.NoNode k → locate m r ≡ no_node k → ReadAnswered (ReadOn m r room) lines lines (Err given)
  unfolding refusal_of
  no_point_read {k = k} same e = rw same (refused_read (why.NoNode k) (no_point e))

  module _ {legs : List Leg} (found : locate m r ≡ located legs) where
    pub leg_failed : {lines : List ℕ} {given : Refusal} → LegFails m legs given → ReadAnswered (ReadOn m r room) lines lines (Err given)
    unfolding refusal_of
    leg_failed (LegFails.unread {k = k} f) = refused_read (why.NoReading k) (no_leg found f)
    leg_failed (LegFails.several {k = k} f) = refused_read (why.SeveralReadings k) (no_leg found f)

    -- Every leg is read, and the lines are written; or the answer is a refusal.
    module _ {lists : List (List ℕ)} (all : LegsRead m 0 legs (every lists)) where
      pub all_read : {before after : List ℕ} {given : ReadLines} → Ended m r room lists (Ok given) → after ≡ placed (joined lists) before →
          ReadAnswered (ReadOn m r room) before after (Ok given)
      unfolding lines_after
      all_read {before} {after} {given} ended put = go ended.outcome ended.ends ended.answers
        where
          go : (o : ReadOutcome) → ReadJoined (banned_meeting m lists) m r room lists o → ReadAnswers (Ok given) o → ReadAnswered (ReadOn m r room) before after (Ok given)
          go o j h =
              let z = read_as m r room lists o (banned_meeting m lists) j h refl in
              record { outcome = o; asked = every_leg found all j; answers = h; buffer_after = rw z.2 put }

      pub none_read : {before : List ℕ} {given : Refusal} → Ended m r room lists (Err given) → ReadAnswered (ReadOn m r room) before before (Err given)
      none_read {before} ended =
          record {
            outcome = ended.outcome;
            asked = every_leg found all ended.ends;
            answers = ended.answers;
            buffer_after = unchanged before ended.answers refl;
          }

-- The count of lines of an accepted reference, and that there is room for them.
pub counted : {m : Map} {r : Reference} {room : ℕ} {lists : List (List ℕ)} {found : ReadLines} → Ended m r room lists (Ok found) →
    (length (joined lists) ≡ found.count) × (found.count ≤ room)
counted {m} {r} {room} {lists} ended =
    let k = read_as m r room lists ended.outcome (banned_meeting m lists) ended.ends ended.answers refl in
    let size = count_of ended.answers refl k.2 in
    (size, omega (arith, k.3, size))

-- ---- a map, or a reference's bytes, that are refused

pub form_refused : (m : Map) (bytes : List ℕ) {lines : List ℕ} (room : ℕ) (r : Refusal) → parse bytes ≡ ParseAnswer.refused (refusal_of r) →
    ReadAnswered (ReadParsed m (parse bytes) room) lines lines (Err r)
form_refused m bytes room r e = refused_read r (rw e refl)

pub map_refused_lem : (map bytes : List ℕ) {lines : List ℕ} (room : ℕ) (r : Refusal) → decode map ≡ MapAnswer.refused (refusal_of r) →
    ReadAnswered (ReadMap (decode map) bytes room) lines lines (Err r)
map_refused_lem map bytes room r e = refused_read r (rw e refl)

-- ---- the whole call

pub called : (mb ref before : List ℕ) {after work work' : List ℕ} {a : ReadAnswer} → (length work < work_length → (a ≡ Err why.WorkAreaShort) × (after ≡ before)) →
    (work_length ≤ length work → ReadAnswered (ReadMap (decode mb) ref (length before)) before after a) → work' ≡ cleared work → ReadCall mb ref work before a work' after
unfolding refusal_of
called mb ref before short ran e =
    record {
      called = Answering.stepped ReadOutcome.refused (λ m. ReadParsed m (parse ref) (length before)) mb (refused_read why.WorkAreaShort refl) short ran e;
    }
