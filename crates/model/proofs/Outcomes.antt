-- The writer's and the reader's outcomes, taken apart and put together row by row.
use Prim.Native.Nat.{ℕ, ◌+◌, ◌-◌, ◌≤◌, ◌<◌}
use mathlib.Core.Path.{◌≡◌, refl, subst}
use mathlib.Core.Bool.{Bool, true, false}
use mathlib.Core.List.{List}
use native.Mathlib.Omega.{arith}
use lib.ListN.{length}
use borrow.Author.Tests.{le-ltb}
use Rattle.model.specs.declared.Span.{Span}
use Rattle.model.specs.Refusal.{Refused}
use Rattle.model.specs.Map.{Map, whole, decode}
use Rattle.model.specs.Lines.{Connected, total}
use Rattle.model.specs.Reference.{Reference, ParseAnswer, parsed, parse}
use Rattle.model.specs.Reading.{Leg, joined, banned_meeting}
use Rattle.model.specs.Stretch.{Stretch, remaining, StretchAnswer, remains, check_stretch}
use Rattle.model.specs.Choice.{LegTest, good, Chosen, stretch_bytes}
use Rattle.model.specs.LegTests.{tests_made, tested_good, good_or_untested, Fewest}
use Rattle.model.specs.Outcome.{LegsRead, every, SpansRead, ReadOutcome, read, ReadEnd, ReadJoined, ReadOn, ReadParsed, Reads, WriteOutcome, written, WriteBy, WriteOn, WriteStretch, Writes}
use Rattle.model.specs.Work.{work_length}
use Rattle.model.proofs.Every.{Every, none, also}
use Rattle.model.proofs.Skipping.{Left, taken}
use Rattle.model.proofs.Opened.{opened}

-- What an acceptance of the writer says, by whatever test.
pub record WrittenBy (test : LegTest) (bytes : List (List ℕ) → List ℕ) (lines : List ℕ) (made : ℕ) (bs : List ℕ) (told excess : ℕ) : Type 0 where
  pub legs : List (List ℕ)
  pub chosen : Chosen (tested_good test lines made) lines legs
  pub same : bs ≡ bytes legs
  pub tests : told ≡ made
  pub fewest : ℕ
  pub untested : Fewest (good_or_untested test lines made) lines fewest
  pub exceeds : excess ≡ length legs - fewest

pub written_on : {test : LegTest} {bytes : List (List ℕ) → List ℕ} {lines : List ℕ} {made room : ℕ} {bs : List ℕ} {told excess : ℕ} →
    WriteBy test bytes lines made room (written bs told excess) → WrittenBy test bytes lines made bs told excess
written_on (WriteBy.accepted {lss = lss} {fewest = fewest} c f fits) =
    record { legs = lss; chosen = c; same = refl; tests = refl; fewest = fewest; untested = f; exceeds = refl }

-- The writer, which may make `tests` leg tests, wrote these bytes on this map, and told how many it made and the excess.
pub record Written (m : Map) (mb : List ℕ) (s : Stretch) (tests : ℕ) (bytes : List ℕ) (made excess : ℕ) : Type 0 where
  pub decodes : decode mb ≡ whole m
  pub left : Left m (remaining m s)
  pub on : WrittenBy (good m) (λ lss. stretch_bytes m lss (remaining m s)) (remaining m s).lines (tests_made (length (remaining m s).lines) tests) bytes made
      excess

pub not_refused : {bytes : List ℕ} {made excess : ℕ} {r : Refused} → written bytes made excess ≡ WriteOutcome.refused r → ⊥
not_refused e = let z : ◌≡◌ {A = ℕ} 0 1 = cc in omega arith

module _ (mb : List ℕ) (s : Stretch) (tests : ℕ) (bytes : List ℕ) (made excess room : ℕ) where
  written_stretch : (m : Map) (a : StretchAnswer) → decode mb ≡ whole m → check_stretch m s ≡ a →
      WriteStretch m a tests room (written bytes made excess) → Written m mb s tests bytes made excess
  written_stretch m (remains r) d e h =
      let t = taken m s r e in
      let on = subst (λ (x : Stretch). WriteOn m x (tests_made (length x.lines) tests) room (written bytes made excess)) t.0 h in
      record { decodes = d; left = rw t.0 at t.1; on = written_on on }
  written_stretch m (StretchAnswer.refused n) d e h = absurd (not_refused h)

  pub written_of : (work : ℕ) → Writes mb s tests work room (written bytes made excess) → (m : Map) × Written m mb s tests bytes made excess
  written_of work h =
      let g = opened WriteOutcome.refused (λ m. WriteStretch m (check_stretch m s) tests room) mb (λ r. not_refused) work h in
      (g.0, written_stretch g.0 _ g.1 refl g.2)

-- The writer comes to the map and to what remains of the stretch.
pub on_writes : (mb : List ℕ) (s : Stretch) {m : Map} {r : Stretch} (tests work room : ℕ) (o : WriteOutcome) → work_length ≤ work → decode mb ≡ whole m →
    check_stretch m s ≡ remains r → WriteOn m r (tests_made (length r.lines) tests) room o → Writes mb s tests work room o
on_writes mb s tests work room o full d e h = rw (le-ltb work work_length full, d, e) h

-- The reader comes to the map and the reference.
pub on_reads : (mb bytes : List ℕ) {m : Map} {r : Reference} (work room : ℕ) (o : ReadOutcome) → work_length ≤ work → decode mb ≡ whole m →
    parse bytes ≡ parsed r → ReadOn m r room o → Reads mb bytes work room o
on_reads mb bytes work room o full d p h = rw (le-ltb work work_length full, d, p) h

-- The reader accepted these bytes on this map, and this is the reference.
pub record Accepted (m : Map) (mb bytes : List ℕ) (room : ℕ) (ls : List ℕ) (pos neg : Span) : Type 0 where
  pub decodes : decode mb ≡ whole m
  pub reference : Reference
  pub parses : parse bytes ≡ parsed reference
  pub on_map : ReadOn m reference room (read ls pos neg)

not_read : {ls : List ℕ} {pos neg : Span} {r : Refused} → read ls pos neg ≡ ReadOutcome.refused r → ⊥
not_read e = let z : ◌≡◌ {A = ℕ} 0 1 = cc in omega arith

module _ (mb bytes : List ℕ) (room : ℕ) (ls : List ℕ) (pos neg : Span) where
  accepted_parsed : (m : Map) (a : ParseAnswer) → decode mb ≡ whole m → parse bytes ≡ a → ReadParsed m a room (read ls pos neg) →
      Accepted m mb bytes room ls pos neg
  accepted_parsed m (parsed r) d p h = record { decodes = d; reference = r; parses = p; on_map = h }
  accepted_parsed m (ParseAnswer.refused n) d p h = absurd (not_read h)

  pub accepted_of : (work : ℕ) → Reads mb bytes work room (read ls pos neg) → (m : Map) × Accepted m mb bytes room ls pos neg
  accepted_of work h =
      let g = opened ReadOutcome.refused (λ m. ReadParsed m (parse bytes) room) mb (λ r. not_read) work h in
      (g.0, accepted_parsed g.0 _ g.1 refl g.2)

-- The legs of which an acceptance is: each connected, no banned turn where two meet, and the spans on the first and the last.
pub record OfLegs (m : Map) (r : Reference) (ls : List ℕ) (pos neg : Span) : Type 0 where
  pub legs : List (List ℕ)
  pub lines : ls ≡ joined legs
  pub connected : Every (Connected m) legs
  pub free : banned_meeting m legs ≡ false
  pub spans : SpansRead m r legs pos neg
  pub below : pos.least + neg.least < total m (joined legs)

legs_connected : {m : Map} {k : ℕ} {legs : List Leg} {lss : List (List ℕ)} → LegsRead m k legs (every lss) → Every (Connected m) lss
legs_connected LegsRead.none = none
legs_connected (LegsRead.only o r) = also o.reading.allowed.connected (legs_connected r)

of_end : {m : Map} {r : Reference} {room : ℕ} {lss : List (List ℕ)} {ls : List ℕ} {pos neg : Span} → Every (Connected m) lss →
    banned_meeting m lss ≡ false → ReadEnd m r room lss (read ls pos neg) → OfLegs m r ls pos neg
of_end {lss = lss} c free (ReadEnd.accepted s h k) = record { legs = lss; lines = refl; connected = c; free = free; spans = s; below = h }

module _ (m : Map) (r : Reference) (room : ℕ) (ls : List ℕ) (pos neg : Span) where
  of_joined : {lss : List (List ℕ)} (t : Bool) → banned_meeting m lss ≡ t → Every (Connected m) lss → ReadJoined t m r room lss (read ls pos neg) →
      OfLegs m r ls pos neg
  of_joined true e c h = absurd (not_read h)
  of_joined false e c h = of_end c e h

  pub of_legs : ReadOn m r room (read ls pos neg) → OfLegs m r ls pos neg
  of_legs (ReadOn.every_leg {lss = lss} l h end) = of_joined (banned_meeting m lss) refl (legs_connected h) end
