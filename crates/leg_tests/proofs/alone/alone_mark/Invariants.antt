-- The walk along the list of the node has met no other line that leaves as the one at position `i`.
use Rattle.std.proofs.Common.{◌≡◌}
use Rattle.model.specs.Map.{Map}
use Rattle.model.specs.Lines.{leaving}
use Rattle.work_area.specs.Area.{Held}
use Rattle.fields.specs.Leg.{attributes_in}
use Rattle.leg_tests.specs.Leaving.{Leaving}
use Rattle.leg_tests.proofs.LeavingLists.{Along}
use Rattle.leg_tests.proofs.alone.alone_mark.Given as goal

abbrev pub invariant-loop-at : goal.invariant-loop-at
invariant-loop-at l =
    (m : Map) → Held l.work l.stretch.lines m → Leaving m l.stretch.lines l.work → Along m l.stretch.lines l.v l.own (λ x. leaving m x ≡ attributes_in l.leaves) l.at

abbrev pub decreases-loop-at : goal.decreases-loop-at
decreases-loop-at l = l.at
