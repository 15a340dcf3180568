-- What a number of leg tests finds of a stretch's choices of points (paper 02, W7).
use Rattle.std.specs.Prelude.{ℕ, ◌-◌, ◌≡◌, ◌⊎◌, List, Result, Ok, Err}
use Rattle.model.specs.Map.{Map}
use Rattle.model.specs.Choice.{good, Choice, Chosen}
use Rattle.model.specs.LegTests.{tested_good, good_or_untested, NoChoice, Fewest}
use Rattle.point_choice.specs.Cuts.{cut_legs}
use Rattle.reference_bytes.specs.Put.{CutInto}
use Rattle.writer.specs.declared.Found.{Found}
use Rattle.model.specs.declared.Refusal.{Refusal}
use Rattle.model.specs.declared.Refusal.TheVariants as why

-- The choice of points over legs tested good, by the cuts in a table; the tests made, and its excess "over the fewest when untested legs count as good".
pub record FoundLegs (m : Map) (lines : List ℕ) (made : ℕ) (table : List ℕ) (legs tests excess : ℕ) : Type 0 where
  pub ends : List ℕ
  pub cut : CutInto m lines table legs ends
  pub chosen : Chosen (tested_good (good m) lines made) lines (cut_legs lines 0 ends)
  pub fewest : ℕ
  pub least : Fewest (good_or_untested (good m) lines made) lines fewest
  pub told : tests ≡ made
  pub over : excess ≡ legs - fewest

-- An answer after `made` tests, with the table of cuts that it leaves: 10 where there is no choice even when untested legs count as good, 26 where there is one
-- then and none over legs tested good.
abbrev pub Finds : Map → List ℕ → ℕ → List ℕ → Result Found Refusal → Type 0
Finds m lines made table (Ok found) = FoundLegs m lines made table found.legs found.tests found.excess
Finds m lines made table (Err r) =
    ((r ≡ why.NoChoice) × NoChoice (good_or_untested (good m) lines made) lines) ⊎
    ((r ≡ why.Unfinished) × NoChoice (tested_good (good m) lines made) lines ×
    ((lss : List (List ℕ)) × Choice (good_or_untested (good m) lines made) lines lss))
