-- Best found so far: what a number of leg tests does to the writer's answer (paper 02, W7).
-- "It answers the fewest-point reference over legs tested good, the tests made, and by how many points at most that exceeds the fewest. [..] With tests for
-- all legs the answer is the ordinary one. More tests never give more points."
use Rattle.std.specs.Prelude.{ℕ, ◌+◌, ◌≤◌, ◌<◌, ◌≡◌, List, length}
use Rattle.model.specs.Refusal.{row}
use Rattle.model.specs.Map.{Map, whole, decode}
use Rattle.model.specs.Reference.{point_count}
use Rattle.model.specs.Stretch.{Stretch, remaining, StretchAnswer, remains, check_stretch}
use Rattle.model.specs.Choice.{good, Chosen, stretch_bytes}
use Rattle.model.specs.LegTests.{leg_count, NoChoice, Fewest}
use Rattle.model.specs.Opening.{Opens}
use Rattle.model.specs.Outcome.{WriteOutcome, written, refused, Writes}

-- ---- the ordinary answer

-- The writer of paper 01, which tests every leg: 10, 11, or accepted. It stands here for the sentence on the ordinary answer alone.
pub data Ordinary (m : Map) (s : Stretch) (room : ℕ) : WriteOutcome → Type 0 where
  no_choice : NoChoice (good m) s.lines → Ordinary m s room (refused (row 10))
  no_room : {lss : List (List ℕ)} → Chosen (good m) s.lines lss → room < length (stretch_bytes m lss s) → Ordinary m s room (refused (row 11))
  accepted : {lss : List (List ℕ)} → Chosen (good m) s.lines lss → length (stretch_bytes m lss s) ≤ room →
      Ordinary m s room (written (stretch_bytes m lss s) (leg_count (length s.lines)) 0)

abbrev pub OrdinaryStretch : Map → StretchAnswer → ℕ → WriteOutcome → Type 0
OrdinaryStretch m (remains s) room o = Ordinary m s room o
OrdinaryStretch m (StretchAnswer.refused r) room o = o ≡ WriteOutcome.refused r

abbrev pub OrdinaryWrites : List ℕ → Stretch → ℕ → ℕ → WriteOutcome → Type 0
OrdinaryWrites mb s work room o = Opens WriteOutcome.refused (λ m. OrdinaryStretch m (check_stretch m s) room) mb work o

-- "Tests for all legs", of what remains of the stretch.
abbrev pub TestsForAll : List ℕ → Stretch → ℕ → Type 0
TestsForAll mb s tests = (m : Map) (r : Stretch) → decode mb ≡ whole m → check_stretch m s ≡ remains r → leg_count (length r.lines) ≤ tests

-- ---- the claim

-- An acceptance with no more points and no more excess than bytes that were written with an excess.
pub data NoWorse (bytes : List ℕ) (excess : ℕ) : WriteOutcome → Type 0 where
  no_worse : {bytes' : List ℕ} {made' excess' : ℕ} → point_count bytes' ≤ point_count bytes → excess' ≤ excess →
      NoWorse bytes excess (written bytes' made' excess')

-- The points of bytes lie between the true fewest, over all good legs, and so many more. `point_count` leaves the last point out on both sides.
pub record Between (bytes : List ℕ) (excess fewest : ℕ) : Type 0 where
  pub from : fewest ≤ point_count bytes
  pub to : point_count bytes ≤ fewest + excess

-- With tests for all legs the answer is the ordinary one, and no other. More tests never take a reference away, and give it no more points and no more
-- excess. The excess is as much as the points may exceed the fewest by.
pub record BestFound : Type 0 where
  pub ordinary : (mb : List ℕ) (s : Stretch) (tests work room : ℕ) (o : WriteOutcome) → TestsForAll mb s tests →
      Writes mb s tests work room o → OrdinaryWrites mb s work room o
  pub as_ordinary : (mb : List ℕ) (s : Stretch) (tests work room : ℕ) (o : WriteOutcome) → TestsForAll mb s tests →
      OrdinaryWrites mb s work room o → Writes mb s tests work room o
  pub more_tests : (mb bytes : List ℕ) (s : Stretch) (tests more work room made excess : ℕ) (o : WriteOutcome) → tests ≤ more →
      Writes mb s tests work room (written bytes made excess) → Writes mb s more work room o → NoWorse bytes excess o
  pub between : (mb bytes : List ℕ) (s : Stretch) (tests work room made excess : ℕ) (m : Map) (fewest : ℕ) →
      Writes mb s tests work room (written bytes made excess) → decode mb ≡ whole m → Fewest (good m) (remaining m s).lines fewest →
      Between bytes excess fewest
