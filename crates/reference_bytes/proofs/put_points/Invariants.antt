-- The points before leg `t` are put.
use Rattle.std.proofs.Common.{◌≡◌, ℕ, List, [], take}
use Rattle.model.specs.Map.{Map}
use Rattle.model.specs.Reference.{point_bytes}
use Rattle.model.specs.Choice.{points_of}
use Rattle.work_area.specs.Area.{Held}
use Rattle.point_choice.specs.Cuts.{cut_legs}
use Rattle.buffers.specs.Placed.{put_at}
use Rattle.reference_bytes.specs.Put.{CutInto}
use Rattle.reference_bytes.proofs.put_points.Given as goal

abbrev pub invariant-loop-t : goal.invariant-loop-t
invariant-loop-t l =
    (m : Map) → (cs : List ℕ) → Held l.work l.stretch.lines m → CutInto m l.stretch.numbers.now l.cuts l.legs cs →
    l.bytes ≡ put_at 7 (point_bytes (points_of m (cut_legs l.stretch.numbers.now 0 (take l.t cs))) []) l.fn.bytes
