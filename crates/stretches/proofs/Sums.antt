-- "Whatever the map, no sum overflows" (W4), at lengths in centimetres (W8): of the length of a stretch's lines, and of both its offsets.
use Prim.Native.Nat.{ℕ, zero, suc, ◌+◌, ◌*◌, ◌≤◌, ◌<◌}
use mathlib.Core.List.{List}
use native.Mathlib.Nat.{mul-le-mul_right}
use native.Mathlib.Numerals.{add-one}
use native.Mathlib.Omega.{arith}
use lib.ListN.{length, get_or, take}
use Rattle.model.specs.Map.{Map, greatest_line_length, greatest_number}
use Rattle.model.specs.Lines.{line_at, total}
use Rattle.model.specs.Stretch.{greatest_stretch}
use Rattle.work_area.specs.Area.{Held}
use Rattle.stretches.specs.Known.{Known}
use Rattle.stretches.proofs.Stretches.{total_none, total_on}

module _ {m : Map} {lines : ℕ} {work : List ℕ} (held : Held work lines m) (ls : List ℕ) (known : Known lines ls) where
  line_long : (i : ℕ) → i < length ls → (line_at m (get_or ls i 0)).length ≤ greatest_line_length
  line_long i h = (held.formed.line_ok (get_or ls i 0) (omega (arith, held.line_count, known i h))).long

  -- So many lines are no longer than so many of the longest.
  pub lines_bound : (i : ℕ) → i ≤ length ls → total m (take i ls) ≤ i * greatest_line_length
  lines_bound zero h = omega (arith, total_none m ls)
  lines_bound (suc i) h = omega (arith, rw add-one at (total_on m ls i (omega arith)), lines_bound i (omega arith), line_long i (omega arith))

  -- A stretch has 64 lines at most: a number of 32 bits.
  pub stretch_fits : (i : ℕ) → i ≤ length ls → length ls ≤ greatest_stretch → total m (take i ls) ≤ greatest_number
  stretch_fits i h few =
      omega (arith, lines_bound i h, mul-le-mul_right {m = i} {n = greatest_stretch} greatest_line_length (omega arith))

-- Two offsets of 32 bits may need 33, which no length of a stretch does: so they are added in 64.
pub offsets_fit : {pos neg : ℕ} → pos ≤ greatest_number → neg ≤ greatest_number → pos + neg ≤ 2 * greatest_number
offsets_fit p n = omega arith
