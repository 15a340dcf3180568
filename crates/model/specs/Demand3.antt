-- Demand 3: what the writer accepts the reader hands back exactly, and nothing else fits the bytes (paper 01, "The words of demand 3").
use Rattle.std.specs.Prelude.{ℕ, ◌+◌, ◌*◌, ◌-◌, ◌≤◌, ◌<◌, ◌≡◌, false, List, length}
use Rattle.model.specs.declared.Span.{Span}
use Rattle.model.specs.Map.{Map, whole, decode}
use Rattle.model.specs.Lines.{total}
use Rattle.model.specs.Reference.{Reference, parsed, parse}
use Rattle.model.specs.Reading.{Leg, Readings}
use Rattle.model.specs.Stretch.{Stretch, banned_pair, remaining}
use Rattle.model.specs.Choice.{good, Chosen, first_leg, last_leg}
use Rattle.model.specs.LegTests.{tests_made, tested_good}
use Rattle.model.specs.Locate.{located, locate}
use Rattle.model.specs.Outcome.{ReadOutcome, read, Reads, written, Writes}
use Rattle.model.specs.Work.{work_length}

-- "A joining of least-length legs that fits the bytes is a reading of the reference on that map": these are its legs.
pub record Fits (m : Map) (bytes : List ℕ) (lss : List (List ℕ)) : Type 0 where
  pub reference : Reference
  pub legs : List Leg
  pub parses : parse bytes ≡ parsed reference
  pub locates : locate m reference ≡ located legs
  pub readings : Readings m legs lss

-- Two offsets "differ by less than three 512ths of the leg" (W6), whichever is the greater.
pub record Close (a b leg : ℕ) : Type 0 where
  pub up : 512 * (b - a) < 3 * leg
  pub down : 512 * (a - b) < 3 * leg

-- What is left of an offset lies in a span whose ends are close.
pub record Within (offset : ℕ) (s : Span) (leg : ℕ) : Type 0 where
  pub from : s.least ≤ offset
  pub to : offset ≤ s.greatest
  pub ends : Close s.least s.greatest leg

-- The reader accepts and hands back these lines and spans, and nothing else, with every "full work area" ("one that refusal 1 lets pass") and
-- every "long enough buffer" ("at least as many numbers as the stretch has lines left").
pub record ReadAs (mb bytes lines : List ℕ) (pos neg : Span) : Type 0 where
  pub accepts : (work room : ℕ) → work_length ≤ work → length lines ≤ room → Reads mb bytes work room (read lines pos neg)
  pub nothing_else : (work room : ℕ) (o : ReadOutcome) → work_length ≤ work → length lines ≤ room → Reads mb bytes work room o →
      o ≡ read lines pos neg

-- The legs that the writer chose with so many leg tests (W7).
abbrev pub ChosenBy : Map → List ℕ → ℕ → List (List ℕ) → Type 0
ChosenBy m lines tests legs = Chosen (tested_good (good m) lines (tests_made (length lines) tests)) lines legs

-- What reading a stretch's bytes on the same map gives: the lines left, in order, and spans that hold what is left of the offsets, "the
-- first leg for the positive, the last for the negative". A joining fits the bytes; "there is exactly one, and its legs are the
-- stretch's own, cut at the points the writer chose". "What comes back for an accepted stretch is as promised, bans counted" (W1): the lines
-- have no banned pair, inside a leg or where two meet.
pub record ReadBack (mb : List ℕ) (s : Stretch) (tests : ℕ) (bytes : List ℕ) : Type 0 where
  pub map : Map
  pub decodes : decode mb ≡ whole map
  pub legs : List (List ℕ)
  pub chosen : ChosenBy map (remaining map s).lines tests legs
  pub pos : Span
  pub neg : Span
  pub reads : ReadAs mb bytes (remaining map s).lines pos neg
  pub holds_pos : Within (remaining map s).pos pos (total map (first_leg legs))
  pub holds_neg : Within (remaining map s).neg neg (total map (last_leg legs))
  pub fits : Fits map bytes legs
  pub only : (others : List (List ℕ)) → Fits map bytes others → others ≡ legs
  pub unbanned : banned_pair map (remaining map s).lines ≡ false

-- Two offsets no further apart than a span's ends, and close.
pub record Apart (a b : ℕ) (s : Span) (leg : ℕ) : Type 0 where
  pub up : b ≤ a + (s.greatest - s.least)
  pub down : a ≤ b + (s.greatest - s.least)
  pub close : Close a b leg

-- What two stretches with the same bytes have in common: the lines left, the legs that they are cut into, and what is left of the offsets up to the span
-- "that reading their bytes gives", each on its own leg.
pub record Alike (mb bytes : List ℕ) (s t : Stretch) (tests tests' : ℕ) : Type 0 where
  pub map : Map
  pub decodes : decode mb ≡ whole map
  pub lines : (remaining map s).lines ≡ (remaining map t).lines
  pub legs : List (List ℕ)
  pub chosen : ChosenBy map (remaining map s).lines tests legs
  pub chosen_too : ChosenBy map (remaining map t).lines tests' legs
  pub pos : Span
  pub neg : Span
  pub reads : ReadAs mb bytes (remaining map s).lines pos neg
  pub near_pos : Apart (remaining map s).pos (remaining map t).pos pos (total map (first_leg legs))
  pub near_neg : Apart (remaining map s).neg (remaining map t).neg neg (total map (last_leg legs))

-- Demand 3, "a single claim": about a writing that was accepted and reading what it wrote; and about two writings that gave the same bytes. The writer may
-- have made any number of leg tests, and of two writings one may have made more than the other (W7).
pub record Demand3 : Type 0 where
  pub back : (mb bytes : List ℕ) (s : Stretch) (tests work room made excess : ℕ) → Writes mb s tests work room (written bytes made excess) →
      ReadBack mb s tests bytes
  pub alike : (mb bytes : List ℕ) (s t : Stretch) (tests tests' work work' room room' made made' excess excess' : ℕ) →
      Writes mb s tests work room (written bytes made excess) → Writes mb t tests' work' room' (written bytes made' excess') →
      Alike mb bytes s t tests tests'
