-- After `k` turns the nodes of the first point and of the `k` after it are known. The rest of the table is kept.
use Rattle.std.proofs.Common.{◌+◌}
use Rattle.buffers.specs.Kept.{Kept}
use Rattle.references.proofs.Tracked.{Tracked}
use Rattle.references.proofs.points.locate.Given as goal

abbrev pub invariant-loop-k : goal.invariant-loop-k
invariant-loop-k l =
    record { kept : Kept 0 (l.reference.points + 1) l.fn.places l.places; tracked : Tracked l.reference.bytes.now l.work l.nodes l.k l.places }
