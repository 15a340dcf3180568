-- Legs that count as good where a number of tests left them untested (paper 02, W7, "when untested legs count as good").
use Rattle.std.specs.Prelude.{ℕ, ◌+◌, ◌*◌, ◌-◌, ◌≤◌, ◌<◌, ◌≡◌, List, get_or}
use Rattle.model.specs.LegTests.{turn}
use Rattle.buffers.specs.Kept.{Kept}
use Rattle.point_choice.specs.Cuts.{GoodIn}

-- The leg from `i` to `j` is good in a table, or its turn comes after so many tests of the legs of `n` lines.
pub data GoodOrNotTested (n tests : ℕ) (table : List ℕ) (i j : ℕ) : Type 0 where
  good : GoodIn table i j → GoodOrNotTested n tests table i j
  not_tested : tests < turn n i (j - i) → GoodOrNotTested n tests table i j

-- The legs from position `i` past position `end` have the number 1. The table was `a` and is `b`.
pub record RowHoped (n i end : ℕ) (a b : List ℕ) : Type 0 where
  pub ones : (j : ℕ) → end < j → j ≤ n → get_or b (65 * i + j) 0 ≡ 1
  pub kept : Kept (65 * i + end + 1) (65 * i + n + 1) a b

-- Of the legs of `n` lines those that were good or not tested are good now, and no others.
pub record Hoped (n tests : ℕ) (a b : List ℕ) : Type 0 where
  pub each : (i j : ℕ) → i < j → j ≤ n → GoodOrNotTested n tests a i j → GoodIn b i j
  pub only : (i j : ℕ) → i < j → j ≤ n → GoodIn b i j → GoodOrNotTested n tests a i j
  pub kept : Kept 0 (65 * n) a b
