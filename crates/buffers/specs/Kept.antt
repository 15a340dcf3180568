-- A buffer before and after a change of a part of it.
use Rattle.std.specs.Prelude.{ℕ, ◌+◌, ◌≤◌, ◌<◌, ◌≡◌, List, length, get_or}

-- The area `v` is `w` but for the numbers from `low` up to `high`.
pub record Kept (low high : ℕ) (w v : List ℕ) : Type 0 where
  pub same : length v ≡ length w
  pub below : (k : ℕ) → k < low → get_or v k 0 ≡ get_or w k 0
  pub above : (k : ℕ) → high ≤ k → get_or v k 0 ≡ get_or w k 0

-- The `count` numbers from `base` on are `x`, and nothing else is changed.
pub record Filled (base count x : ℕ) (w v : List ℕ) : Type 0 where
  pub filled : (l : ℕ) → l < count → get_or v (base + l) 0 ≡ x
  pub kept : Kept base (base + count) w v
