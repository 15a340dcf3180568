-- "Whatever the map, no sum overflows" (W4). Who seeks ways goes on from one that is no longer than a leg can be, and by one line: so the greatest length of
-- a leg and that of a line, together, bound every sum.
use Rattle.model.specs.Map.{Map, greatest_line_length, greatest_number, whole, decode}
use Rattle.model.specs.Reading.{greatest_leg_length}
use Rattle.model.specs.Lines.{line_at, total}
use Rattle.model.specs.WellFormed.{WellFormed}
use Rattle.model.proofs.Decoded.{well_formed}
use Rattle.way_lengths.proofs.Plain.{total_more}
use Prim.Native.Nat.{ℕ, ◌+◌, ◌≤◌, ◌<◌}
use mathlib.Core.Path.{◌≡◌}
use mathlib.Core.List.{List, [], ◌∷◌, ◌++◌}
use native.Mathlib.Omega.{arith}
use lib.ListN.{length}

-- A limit that is no more than a leg's length, and one line: a number of 32 bits.
pub bound_fits : {limit : ℕ} → limit ≤ greatest_leg_length → limit + greatest_line_length ≤ greatest_number
bound_fits small = omega arith

module _ {m : Map} (formed : WellFormed m) {d l limit : ℕ} (within : d ≤ limit) (l< : l < length m.lines) where
  -- A length within the limit and one line: what the sum is at most.
  pub sum_bound : d + (line_at m l).length ≤ limit + greatest_line_length
  sum_bound = let ok = formed.line_ok l l< in omega (arith, ok.long)

  pub no_overflow : limit ≤ greatest_leg_length → d + (line_at m l).length ≤ greatest_number
  no_overflow small = omega (arith, sum_bound, bound_fits small)

-- The same of whatever bytes decode, and of the lines of a way: those of a leg, and any line behind them.
pub way_no_overflow : (bytes : List ℕ) {m : Map} → decode bytes ≡ whole m → (ls : List ℕ) → total m ls ≤ greatest_leg_length →
    (l : ℕ) → l < length m.lines → total m (ls ++ l ∷ []) ≤ greatest_number
way_no_overflow bytes {m} decoded ls within l l< =
    omega (arith, total_more m ls l, no_overflow (well_formed m bytes decoded) within l< (omega arith))
