-- Seven bytes, one run after another.
use Rattle.std.proofs.Common.{◌+◌, ◌∙◌, ap, [], ◌∷◌}
use Rattle.model.specs.Reference.{bytes2}
use Rattle.buffers.specs.Placed.{put_at}
use Rattle.buffers.proofs.Placing.{put_two, put_seven}
use Rattle.reference_bytes.specs.Point.{bytes_of_point}
use Rattle.reference_bytes.proofs.put_point.Goals as goal

pub returns : goal.returns
unfolding bytes_of_point
returns c =
    let a = c.args in
    let q = a.point in
    let at = a.at in
    c.put2-2.ensures ∙ put_two (at + 5) q.lat _
    ∙ ap (put_at (at + 5) (bytes2 q.lat []))
    (c.put2.ensures ∙ put_two (at + 3) q.lon _
    ∙ ap (put_at (at + 3) (bytes2 q.lon []))
    (c.put1-3.ensures ∙ ap (put_at (at + 2) (q.d ∷ [])) (c.put1-2.ensures ∙ ap (put_at (at + 1) (q.q ∷ [])) c.put1.ensures)))
    ∙ put_seven at q.p q.q q.d q.lon q.lat a.bytes.now c.requires.3
