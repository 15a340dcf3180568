-- How a search begins.
use Rattle.work_area.specs.Area.{search_from, queue_from, last_barred_from}
use Rattle.model.specs.Map.{Map}
use Rattle.search_cells.specs.Area.{far, length_to, queued}
use Rattle.std.specs.Prelude.{ℕ, ◌+◌, ◌≤◌, ◌<◌, ◌≡◌, List, ◌≢◌, ◌⊎◌}
use Rattle.model.specs.Lines.{line_at}
use Rattle.buffers.specs.Kept.{Kept}
use Rattle.way_lengths.specs.Ways.{node, Begins}
use Rattle.way_lengths.specs.declared.Terminus.{Terminus}
use Rattle.relaxation.specs.Underway.{Task, task, Underway}

-- The length to line `l` is at most its own, where its class and its length allow that.
abbrev pub BasedAt : Map → ℕ → ℕ → List ℕ → ℕ → Type 0
BasedAt m class limit w l = (line_at m l).frc ≤ class → (line_at m l).length ≤ limit → length_to w l ≤ (line_at m l).length

-- So it is to each line that ways may begin with.
abbrev pub Based : Map → ℕ → ℕ → Terminus → ℕ → List ℕ → Type 0
Based m lines class from limit w = (l : ℕ) → l < lines → Begins m from l → BasedAt m class limit w l

-- The search from there begins: some of the lines that ways may begin with are reached, each at its own length.
pub record Seeding (q : Task) (lines class limit count end : ℕ) (w : List ℕ) : Type 0 where
  pub underway : Underway q lines class limit 0 count end w
  pub own : (l : ℕ) → l < lines → length_to w l < far → length_to w l ≡ (line_at q.map l).length

-- Line `j` is one more, where its class and its length allow that.
pub record Seeded (q : Task) (lines class limit j : ℕ) (w v : List ℕ) (count end : ℕ) : Type 0 where
  pub seeding : Seeding q lines class limit count end v
  pub based : BasedAt q.map class limit v j
  pub others : (k : ℕ) → k < lines → k ≢ j → length_to v k ≡ length_to w k
  pub kept : Kept search_from last_barred_from w v

-- All lines that start at node `v` are.
pub record SeededNode (m : Map) (lines class v limit : ℕ) (w u : List ℕ) (count end : ℕ) : Type 0 where
  pub seeding : Seeding (task m (node v)) lines class limit count end u
  pub based : Based m lines class (node v) limit u
  pub kept : Kept search_from last_barred_from w u

-- All lines that ways may begin with are reached, where their class and their length allow that.
pub record Begun (m : Map) (lines class : ℕ) (from : Terminus) (limit : ℕ) (w v : List ℕ) (count end : ℕ) : Type 0 where
  pub underway : Underway (task m from) lines class limit 0 count end v
  pub based : Based m lines class from limit v
  pub kept : Kept search_from last_barred_from w v

-- The key is put into a queue of which none is gone on from, wherever its place is.
pub record InsertedSeed (end key : ℕ) (w v : List ℕ) : Type 0 where
  pub ordered : ((i k : ℕ) → i ≤ k → k < end → queued w i ≤ queued w k) → (i k : ℕ) → i ≤ k → k < end + 1 → queued v i ≤ queued v k
  pub queue : (i : ℕ) → i < end + 1 → (queued v i ≡ key) ⊎ ((k : ℕ) × (k < end) × (queued v i ≡ queued w k))
  pub still : (k : ℕ) → k < end → (i : ℕ) × (i < end + 1) × (queued v i ≡ queued w k)
  pub here : (i : ℕ) × (i < end + 1) × (queued v i ≡ key)
  pub kept : Kept queue_from (queue_from + end + 1) w v
