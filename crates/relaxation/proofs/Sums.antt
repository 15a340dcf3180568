-- "Whatever the map, no sum overflows" (W4): of the sum that a search forms at every step, the length to the line that goes on and the line that it goes on to.
use Rattle.model.specs.Map.{greatest_line_length, greatest_number}
use Rattle.model.specs.Lines.{line_at}
use Prim.Native.Nat.{ℕ, ◌+◌, ◌≤◌, ◌<◌}
use mathlib.Core.List.{List}
use native.Mathlib.Omega.{arith}
use Rattle.relaxation.specs.Underway.{Task, Underway}
use Rattle.relaxation.specs.Relaxed.{Goes}
use Rattle.relaxation.specs.declared.Going.{Going}
use Rattle.relaxation.proofs.Relaxing as relaxing
use Rattle.way_lengths.proofs.Sums as sums

module _ {q : Task} {n c limit place count end j : ℕ} {w : List ℕ} {going : Going} (g : Underway q n c limit place count end w)
    (o : Goes q.map n place end w going) (j< : j < n) where
  -- The length to the line that goes on is that of a way within the limit of the search.
  pub going_within : going.length ≤ limit
  going_within =
      let here = relaxing.here g o j< in
      omega (arith, here, g.within going.line (relaxing.going_in g o j<) (relaxing.reached g o j<))

  pub sum_bound : going.length + (line_at q.map j).length ≤ limit + greatest_line_length
  sum_bound = sums.sum_bound g.held.formed going_within (omega (arith, g.held.line_count))

  pub no_overflow : going.length + (line_at q.map j).length ≤ greatest_number
  no_overflow = sums.no_overflow g.held.formed going_within (omega (arith, g.held.line_count)) g.small
