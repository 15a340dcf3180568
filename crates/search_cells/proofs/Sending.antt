-- The store of the nearest free line of a node.
use Rattle.model.specs.Map.{greatest_line_count}
use Rattle.search_cells.specs.Area.{NearerBy, farther, nearest, alike}
use Prim.Native.Nat.{ℕ, ◌<◌}
use mathlib.Core.List.{List}
use native.Mathlib.Omega.{arith}

-- The cell of a node is no greater than it was, or as small as a line and a weight.
pub nearer_small : {limit x l r : ℕ} {w : List ℕ} → NearerBy limit w x l r → l < greatest_line_count → x < 2_097_152 → r < 2_097_152
nearer_small (farther e h) l< s = omega arith
nearer_small (nearest e n h) l< s = omega arith
nearer_small (alike e n p h) l< s = omega arith
