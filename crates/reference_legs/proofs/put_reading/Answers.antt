-- The part of the buffer that is lent has as many numbers as the reading has lines.
use Rattle.std.proofs.Common.{ℕ, ◌≡◌, ◌+◌, ◌-◌, ◌≤◌, List, length, take, drop, length-drop, arith}
use Rattle.std.proofs.Math.Seq.{length-take-le}
use Rattle.model.specs.Map.{Map}
use Rattle.model.specs.Lines.{Connected}
use Rattle.search_cells.specs.Area.{lines_from}
use Rattle.fields.specs.declared.leg.Reading.{Reading}
use Rattle.reference_legs.proofs.put_reading.Goals as goal

connected_part : (from : ℕ) (r : Reading) (before : List ℕ) → from + r.count ≤ length before → {m : Map} (w : List ℕ) →
    Connected m (lines_from w r.first r.count) →
    Connected m (lines_from w r.first (length (take (from + r.count - from) (drop from before))))
connected_part from r before fits w h =
    let k : from + r.count - from ≡ r.count = omega arith in
    rw (k, length-take-le r.count (drop from before) (omega (arith, length-drop from before))) h

pub write_lines-requires : goal.write_lines-requires
write_lines-requires c =
    let p = c.requires in
    (p.0, p.1, p.2, connected_part _ c.in-One.reading _ (omega arith) _ (p.3 c.in-One.reading c.in-One.is))
