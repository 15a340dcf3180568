-- After `i` turns the first `i` places of the list are gone through.
use Rattle.model.specs.Map.{Map}
use Rattle.search_cells.specs.Area.{Mirrored, Chained}
use Rattle.search_cells.proofs.Resetting.{Resetting}
use Rattle.search_cells.proofs.list.reset.Given as goal

abbrev pub invariant-loop-i : goal.invariant-loop-i
invariant-loop-i l = (m : Map) → Mirrored l.initial.work l.lines m → (ch : Chained l.initial.work l.lines m) → Resetting m l.lines ch.listing.0 l.i l.initial.work l.work
