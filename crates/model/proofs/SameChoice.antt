-- Two tests of legs that pass the same legs of some lines give the same choice of points, and so the same outcome of the writer.
use Prim.Native.Nat.{ℕ}
use mathlib.Core.Path.{◌≡◌}
use mathlib.Core.Bool.{Bool}
use mathlib.Core.List.{List}
use Rattle.model.specs.Choice.{LegTest, Choice, Chosen}
use Rattle.model.specs.LegTests.{GoodOrUntested, tested_good, good_or_untested, Fewest}
use Rattle.model.specs.Outcome.{WriteOutcome, WriteBy}
use Rattle.model.proofs.Joining.{Inside}
use Rattle.model.proofs.LegTests.{choice_as, tested_good_lem}

-- What the one test passes, of some lines, the other passes.
abbrev pub Passes : LegTest → LegTest → List ℕ → Type 0
Passes test test' lines = (at : ℕ) (last : Bool) (ls : List ℕ) → Inside ls lines → test at last ls → test' at last ls

module _ {test test' : LegTest} {lines : List ℕ} (pass : Passes test test' lines) where
  pub choice_by : {lss : List (List ℕ)} → Choice test lines lss → Choice test' lines lss
  choice_by c = choice_as (λ at last ls within inside t. pass at last ls inside t) c

-- So for legs tested good, and for legs good or untested.
tested_pass : {test test' : LegTest} {lines : List ℕ} (made : ℕ) → Passes test test' lines →
    Passes (tested_good test lines made) (tested_good test' lines made) lines
tested_pass made pass at last ls i t = record { tested = t.tested; good = pass at last ls i t.good }

untested_pass : {test test' : LegTest} {lines : List ℕ} (made : ℕ) → Passes test test' lines →
    Passes (good_or_untested test lines made) (good_or_untested test' lines made) lines
untested_pass made pass at last ls i (GoodOrUntested.good t) = GoodOrUntested.good (pass at last ls i t)
untested_pass made pass at last ls i (GoodOrUntested.untested some late) = GoodOrUntested.untested some late

module _ {test test' : LegTest} {lines : List ℕ} (pass : Passes test test' lines) (pass' : Passes test' test lines) where
  chosen_by : {lss : List (List ℕ)} → Chosen test lines lss → Chosen test' lines lss
  chosen_by c = record { choice = choice_by pass c.choice; preferred = λ others d. c.preferred others (choice_by pass' d) }

  fewest_by : {count : ℕ} → Fewest test lines count → Fewest test' lines count
  fewest_by f =
      record { legs = f.legs; choice = choice_by pass f.choice; counted = f.counted; fewest = λ others d. f.fewest others (choice_by pass' d) }

-- The outcome, where the bytes of a choice by both tests are the same too.
module _ {test test' : LegTest} {lines : List ℕ} (pass : Passes test test' lines) (pass' : Passes test' test lines) (bytes bytes' : List (List ℕ) → List ℕ)
    (same : (lss : List (List ℕ)) → Choice test lines lss → bytes lss ≡ bytes' lss) (made room : ℕ) where
  chosen_tested : {lss : List (List ℕ)} → Chosen (tested_good test lines made) lines lss → Chosen (tested_good test' lines made) lines lss
  chosen_tested c = chosen_by (tested_pass made pass) (tested_pass made pass') c

  pub written_by : {o : WriteOutcome} → WriteBy test bytes lines made room o → WriteBy test' bytes' lines made room o
  written_by (WriteBy.unfinished n c) =
      WriteBy.unfinished (λ lss d. n lss (choice_by (tested_pass made pass') d)) (choice_by (untested_pass made pass) c)
  written_by (WriteBy.no_choice n) = WriteBy.no_choice λ lss d. n lss (choice_by (untested_pass made pass') d)
  written_by (WriteBy.no_room {lss = lss} c h) = WriteBy.no_room (chosen_tested c) (rw (same lss (tested_good_lem c.choice)) at h)
  written_by (WriteBy.accepted {lss = lss} c f h) =
      let one = same lss (tested_good_lem c.choice) in
      rw one (WriteBy.accepted (chosen_tested c) (fewest_by (untested_pass made pass) (untested_pass made pass') f) (rw one at h))
