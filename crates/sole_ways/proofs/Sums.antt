-- "Whatever the map, no sum overflows" (W4): of the sums over a stretch's lines, from which the legs' lengths and the limits of their searches come. Such a sum
-- ends with the first leg that is too long, since no longer one can be used.
use Rattle.model.specs.Map.{Map, greatest_number}
use Rattle.model.specs.Lines.{line_at}
use Rattle.model.specs.Reading.{greatest_leg_length}
use Rattle.work_area.specs.Area.{Held}
use Rattle.stretches.specs.Known.{Known}
use Prim.Native.Nat.{ℕ, ◌+◌, ◌≤◌, ◌<◌}
use mathlib.Core.List.{List}
use native.Mathlib.Omega.{arith}
use lib.ListN.{length, get_or}
use Rattle.way_lengths.proofs.Sums as sums

-- A length that a leg can have, and one line of the stretch.
pub no_overflow : {m : Map} {lines : ℕ} {w : List ℕ} (s : List ℕ) (i d : ℕ) → Held w lines m → Known lines s → i < length s → d ≤ greatest_leg_length →
    d + (line_at m (get_or s i 0)).length ≤ greatest_number
no_overflow s i d held known i< short =
    sums.no_overflow held.formed short (omega (arith, held.line_count, known i i<)) (omega arith)
