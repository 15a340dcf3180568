-- The line has banned turns, or the cell of the node where it ends is brought up to date.
use Rattle.std.proofs.Common.{ℕ, ◌<◌, List, arith}
use Rattle.model.specs.Map.{Map}
use Rattle.search_cells.specs.Area.{Mirrored, NearerBy}
use Rattle.search_cells.proofs.Holding.{few}
use Rattle.search_cells.proofs.Sending.{nearer_small}
use Rattle.search_cells.proofs.list.sends.Goals as goal

-- What the node's cell is to have is small.
small : {limit x l r n : ℕ} {w : List ℕ} → NearerBy limit w x l r → (m : Map) × Mirrored w n m → l < n → x < 2_097_152 → r < 2_097_152
small by h l< s = let n≤ = few h.1 in nearer_small by (omega arith) s

pub overflow_mul-work : goal.overflow_mul-work
overflow_mul-work c = let s = small c.nearer-x.ensures c.requires.2 c.requires.0 (omega arith) in omega arith

pub overflow_add-work : goal.overflow_add-work
overflow_add-work c = let s = small c.nearer-x.ensures c.requires.2 c.requires.0 (omega arith) in omega arith
