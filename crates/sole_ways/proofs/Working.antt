-- The work area after one change of its part for searches and another.
use Prim.Native.Nat.{ℕ}
use mathlib.Core.List.{List}
use Rattle.model.specs.Map.{Map}
use Rattle.search_cells.specs.Area.{Set}
use Rattle.buffers.proofs.Kept.{kept_none, kept_then}
use Rattle.sole_ways.specs.SoleWays.{Worked}

pub worked_none : {m : Map} {lines : ℕ} {w : List ℕ} → Set m lines w → Worked m lines w w
worked_none set = record { set = set; kept = kept_none }

pub worked_then : {m : Map} {lines : ℕ} {w v u : List ℕ} → Worked m lines w v → Worked m lines v u → Worked m lines w u
worked_then a b = record { set = b.set; kept = kept_then a.kept b.kept }
