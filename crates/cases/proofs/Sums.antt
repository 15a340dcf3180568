-- A sum, number by number: what is left of it after each.
use Prim.Native.Nat.{ℕ, suc, ◌+◌, ◌-◌, ◌≤◌, ◌<◌}
use mathlib.Core.Path.{◌≡◌}
use mathlib.Core.List.{List}
use native.Mathlib.Omega.{arith}
use lib.ListN.{get_or}
use Rattle.cases.specs.Sum.{added_to, sum_from}

module _ (numbers : List ℕ) (at to sum whole : ℕ) (left : sum_from numbers at (to - at) sum ≡ whole) where
  pub one_more : at < to → {next : ℕ} → next ≡ added_to sum (get_or numbers at 0) → sum_from numbers (at + 1) (to - (at + 1)) next ≡ whole
  unfolding sum_from
  one_more h e = let n : to - at ≡ suc (to - (at + 1)) = omega arith in rw e (rw n at left)

  pub no_more : to ≤ at → sum ≡ whole
  unfolding sum_from
  no_more h = let n : to - at ≡ 0 = omega arith in rw n at left
