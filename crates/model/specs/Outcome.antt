-- What the reader and the writer come to: for each outcome, when it is the one (paper 01, "Refused, by place").
use Rattle.std.specs.Prelude.{ℕ, ◌+◌, ◌-◌, ◌≤◌, ◌<◌, ◌≡◌, Bool, true, false, List, [], ◌∷◌, length}
use Rattle.model.specs.declared.Span.{Span}
use Rattle.model.specs.Opening.{OnMap, Opens}
use Rattle.model.specs.Refusal.{Refused, row, row_at}
use Rattle.model.specs.Map.{Map, MapAnswer}
use Rattle.model.specs.Lines.{total}
use Rattle.model.specs.Reference.{Reference, ParseAnswer, parsed, parse}
use Rattle.model.specs.Reading.{Leg, Only, Several, Unread, joined, banned_meeting}
use Rattle.model.specs.Stretch.{Stretch, StretchAnswer, remains, check_stretch}
use Rattle.model.specs.Choice.{LegTest, good, Choice, Chosen, first_leg, last_leg, stretch_bytes}
use Rattle.model.specs.LegTests.{tests_made, tested_good, good_or_untested, NoChoice, Fewest}
use Rattle.model.specs.Locate.{locate, located, no_node}
use Rattle.model.specs.Span.{SpanRead, NoOffset}

-- Every leg read, or a refusal and the leg it is given for.
pub data LegsAnswer : Type 0 where
  every : List (List ℕ) → LegsAnswer
  failed : ℕ → ℕ → LegsAnswer

-- "All legs are tried in order, and the first leg without exactly one reading decides between 17 and 18." Legs are counted from `k`.
pub data LegsRead (m : Map) : ℕ → List Leg → LegsAnswer → Type 0 where
  none : {k : ℕ} → LegsRead m k [] (every [])
  only : {k : ℕ} {leg : Leg} {rest : List Leg} {ls : List ℕ} {lss : List (List ℕ)} →
      Only m leg ls → LegsRead m (k + 1) rest (every lss) → LegsRead m k (leg ∷ rest) (every (ls ∷ lss))
  unread : {k : ℕ} {leg : Leg} {rest : List Leg} → Unread m leg → LegsRead m k (leg ∷ rest) (failed 17 k)
  several : {k : ℕ} {leg : Leg} {rest : List Leg} → Several m leg → LegsRead m k (leg ∷ rest) (failed 18 k)
  later : {k n j : ℕ} {leg : Leg} {rest : List Leg} {ls : List ℕ} →
      Only m leg ls → LegsRead m (k + 1) rest (failed n j) → LegsRead m k (leg ∷ rest) (failed n j)

-- Both spans of the legs that were read: "on the first leg for the positive and the last for the negative".
pub record SpansRead (m : Map) (r : Reference) (lss : List (List ℕ)) (pos neg : Span) : Type 0 where
  pub pos_read : SpanRead (total m (first_leg lss)) r.pos pos
  pub neg_read : SpanRead (total m (last_leg lss)) r.neg neg

-- An outcome of the reader.
pub data ReadOutcome : Type 0 where
  read : List ℕ → Span → Span → ReadOutcome
  refused : Refused → ReadOutcome

-- Once every leg is read and no banned turn stands where two meet, for a line buffer of `room` numbers: 19, 20, or accepted.
pub data ReadEnd (m : Map) (r : Reference) (room : ℕ) (lss : List (List ℕ)) : ReadOutcome → Type 0 where
  no_pos : NoOffset (total m (first_leg lss)) r.pos → ReadEnd m r room lss (refused (row 19))
  no_neg : NoOffset (total m (last_leg lss)) r.neg → ReadEnd m r room lss (refused (row 19))
  too_far : {pos neg : Span} → SpansRead m r lss pos neg → total m (joined lss) ≤ pos.least + neg.least →
      ReadEnd m r room lss (refused (row 19))
  no_room : {pos neg : Span} → SpansRead m r lss pos neg → pos.least + neg.least < total m (joined lss) →
      room < length (joined lss) → ReadEnd m r room lss (refused (row 20))
  accepted : {pos neg : Span} → SpansRead m r lss pos neg → pos.least + neg.least < total m (joined lss) →
      length (joined lss) ≤ room → ReadEnd m r room lss (read (joined lss) pos neg)

-- Once every leg is read: 22 ("after 18", W1) where a banned turn stands where two legs meet, or the rest.
abbrev pub ReadJoined : Bool → Map → Reference → ℕ → List (List ℕ) → ReadOutcome → Type 0
ReadJoined true m r room lss o = o ≡ refused (row 22)
ReadJoined false m r room lss o = ReadEnd m r room lss o

-- On a map, for a reference taken apart: 16, then 17 or 18, then 22 or the rest.
pub data ReadOn (m : Map) (r : Reference) (room : ℕ) : ReadOutcome → Type 0 where
  no_point : {k : ℕ} → locate m r ≡ no_node k → ReadOn m r room (refused (row_at 16 k))
  no_leg : {legs : List Leg} {n k : ℕ} → locate m r ≡ located legs → LegsRead m 0 legs (failed n k) →
      ReadOn m r room (refused (row_at n k))
  every_leg : {legs : List Leg} {lss : List (List ℕ)} {o : ReadOutcome} →
      locate m r ≡ located legs → LegsRead m 0 legs (every lss) → ReadJoined (banned_meeting m lss) m r room lss o → ReadOn m r room o

-- Row by row: the reference (12 to 15) after the map (2 to 6, 23, 24) after the work area (1).
abbrev pub ReadParsed : Map → ParseAnswer → ℕ → ReadOutcome → Type 0
ReadParsed m (parsed r) room o = ReadOn m r room o
ReadParsed m (ParseAnswer.refused r) room o = o ≡ refused r

abbrev pub ReadMap : MapAnswer → List ℕ → ℕ → ReadOutcome → Type 0
ReadMap answer ref room o = OnMap ReadOutcome.refused (λ m. ReadParsed m (parse ref) room) answer o

-- The reader's outcome for map bytes, reference bytes, a work area of `work` numbers and a line buffer of `room` numbers.
abbrev pub Reads : List ℕ → List ℕ → ℕ → ℕ → ReadOutcome → Type 0
Reads mb ref work room o = Opens ReadOutcome.refused (λ m. ReadParsed m (parse ref) room) mb work o

-- An outcome of the writer. "It answers the reference, the tests made, and by how many points at most that exceeds the fewest" (W7).
pub data WriteOutcome : Type 0 where
  written : List ℕ → ℕ → ℕ → WriteOutcome
  refused : Refused → WriteOutcome

-- For the lines that remain of a stretch, a test of its legs of which `made` are made, the bytes of legs, and a byte buffer of `room` bytes. "26 (before
-- 10) when tested legs allow no reference but one exists once untested legs count as good" (W7); 10 where none exists even so; 11; or "the fewest-point
-- reference over legs tested good", with "the excess over the fewest when untested legs count as good".
pub data WriteBy (test : LegTest) (bytes : List (List ℕ) → List ℕ) (lines : List ℕ) (made room : ℕ) : WriteOutcome → Type 0 where
  unfinished : {lss : List (List ℕ)} → NoChoice (tested_good test lines made) lines → Choice (good_or_untested test lines made) lines lss →
      WriteBy test bytes lines made room (refused (row 26))
  no_choice : NoChoice (good_or_untested test lines made) lines → WriteBy test bytes lines made room (refused (row 10))
  no_room : {lss : List (List ℕ)} → Chosen (tested_good test lines made) lines lss → room < length (bytes lss) →
      WriteBy test bytes lines made room (refused (row 11))
  accepted : {lss : List (List ℕ)} {fewest : ℕ} → Chosen (tested_good test lines made) lines lss → Fewest (good_or_untested test lines made) lines fewest →
      length (bytes lss) ≤ room → WriteBy test bytes lines made room (written (bytes lss) made (length lss - fewest))

-- On a map, for what remains of a stretch, with so many tests made.
abbrev pub WriteOn : Map → Stretch → ℕ → ℕ → WriteOutcome → Type 0
WriteOn m s made room o = WriteBy (good m) (λ lss. stretch_bytes m lss s) s.lines made room o

-- "The writer takes a number of leg tests it may make": `tests`. Row by row: the stretch as given (7, 8, 21, 9) after the map (2 to 6, 23, 24) after the
-- work area (1).
abbrev pub WriteStretch : Map → StretchAnswer → ℕ → ℕ → WriteOutcome → Type 0
WriteStretch m (remains s) tests room o = WriteOn m s (tests_made (length s.lines) tests) room o
WriteStretch m (StretchAnswer.refused r) tests room o = o ≡ refused r

abbrev pub WriteMap : MapAnswer → Stretch → ℕ → ℕ → WriteOutcome → Type 0
WriteMap answer s tests room o = OnMap WriteOutcome.refused (λ m. WriteStretch m (check_stretch m s) tests room) answer o

-- The writer's outcome for map bytes, a stretch as given, a number of leg tests, a work area of `work` numbers and a byte buffer of `room` bytes.
abbrev pub Writes : List ℕ → Stretch → ℕ → ℕ → ℕ → WriteOutcome → Type 0
Writes mb s tests work room o = Opens WriteOutcome.refused (λ m. WriteStretch m (check_stretch m s) tests room) mb work o
