-- How the keys of the queue that are greater than the new one are moved, from its end on.
use Rattle.work_area.specs.Area.{queue_from}
use Rattle.search_cells.specs.Area.{queued}
use Prim.Native.Nat.{ℕ, ◌+◌, ◌≤◌, ◌<◌}
use mathlib.Core.Path.{◌≡◌}
use mathlib.Core.List.{List}
use Rattle.buffers.specs.Kept.{Kept}

-- Those from place `i` on are moved by one.
pub record Inserting (place end key i : ℕ) (w v : List ℕ) : Type 0 where
  pub behind : place < i
  pub inside : i ≤ end
  pub before : (k : ℕ) → k < i → queued v k ≡ queued w k
  pub moved : (k : ℕ) → i ≤ k → k < end → queued v (k + 1) ≡ queued w k
  pub greater : (k : ℕ) → i ≤ k → k < end → key < queued w k
  pub kept : Kept (queue_from + place + 1) (queue_from + end + 1) w v
