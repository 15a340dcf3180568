-- A banned turn put into the work area.
use Rattle.std.specs.Prelude.{ℕ, ◌+◌, ◌≡◌, List, ◌≢◌, length, get_or}
use Rattle.model.specs.Map.{Turn}
use Rattle.work_area.specs.Area.{ban_head, ban_second, ban_earlier}

-- Turn `i` is at the front of the chain of its first line, and nothing else is changed.
pub record BanPut (i : ℕ) (t : Turn) (w v : List ℕ) : Type 0 where
  pub second : get_or v (ban_second i) 0 ≡ t.second
  pub earlier : get_or v (ban_earlier i) 0 ≡ get_or w (ban_head t.first) 0
  pub head : get_or v (ban_head t.first) 0 ≡ i + 1
  pub others : (k : ℕ) → k ≢ ban_second i → k ≢ ban_earlier i → k ≢ ban_head t.first → get_or v k 0 ≡ get_or w k 0
  pub same : length v ≡ length w
