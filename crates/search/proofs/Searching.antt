-- The search goes through its queue, place by place.
use Rattle.work_area.specs.Area.{search_from, search_to}
use Rattle.search_cells.specs.Area.{far, length_to}
use Prim.Native.Nat.{ℕ, ◌+◌, ◌<◌}
use mathlib.Core.Path.{◌≡◌, ◌∙◌}
use mathlib.Core.List.{List}
use native.Mathlib.Omega.{arith}
use Rattle.buffers.specs.Kept.{Kept}
use Rattle.relaxation.specs.Underway.{Task, Underway}
use Rattle.expansion.specs.Steps.{Expanded}
use Rattle.buffers.proofs.Kept.{kept_then}

-- The search has gone on from the lines at the places below `place`.
pub record Searching (q : Task) (n c limit : ℕ) (u w : List ℕ) (place count end : ℕ) : Type 0 where
  pub underway : Underway q n c limit place count end w
  pub same : (k : ℕ) → k < n → length_to u k < far → length_to w k ≡ length_to u k
  pub kept : Kept search_from search_to u w

pub searching_step : {q : Task} {n c limit place count end count' end' : ℕ} {u w v : List ℕ} → Searching q n c limit u w place count end →
    Expanded q n c limit place w v count' end' → Searching q n c limit u v (place + 1) count' end'
searching_step s e =
    record {
      underway = e.underway;
      same = λ k k< z. let y = s.same k k< z in e.same k k< (omega arith) ∙ y;
      kept = kept_then s.kept e.kept;
    }
