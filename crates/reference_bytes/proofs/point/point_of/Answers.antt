-- Each number is that of the leg's lines. P and Q are bytes, and the length is that of a leg.
use Rattle.reference_bytes.proofs.Points.{point_is}
use Rattle.reference_bytes.proofs.point.point_of.Goals as goal

pub returns : goal.returns
returns c m last h g =
    point_is h.formed g c.attributes_of-leaves.result _ _ (c.attributes_of-leaves.ensures m h) (c.lowest_class-lowest.ensures m h)
    (c.total_length-length.ensures m h) c.differences_of-by.result _ c.distance-d.ensures (c.differences_of-by.ensures m last h g)
