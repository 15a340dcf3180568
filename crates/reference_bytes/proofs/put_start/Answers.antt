-- The codes are those of the first line's start node.
use Rattle.std.proofs.Common.{◌≡◌, ℕ, ◌∙◌, sym, ap, ap₂, [], ◌∷◌, arith}
use Rattle.model.specs.Lines.{node_at}
use Rattle.model.specs.Reference.{bytes3}
use Rattle.model.specs.Choice.{from_node}
use Rattle.buffers.specs.Placed.{put_at}
use Rattle.buffers.proofs.Placing.{put_one, put_three, put_codes}
use Rattle.reference_bytes.specs.Put.{start_bytes}
use Rattle.stretches.proofs.Ends.{from_is}
use Rattle.reference_bytes.proofs.put_start.Goals as goal

pub returns : goal.returns
unfolding start_bytes
returns c m h =
    let a = c.args in
    let lon = c.longitude_code-lon.result in
    let lat = c.latitude_code-lat.result in
    let from = c.node_of-v.ensures m h in
    let v : c.node_of-v.result ≡ from_node m a.stretch.numbers.now = from.0 ∙ from_is m a.stretch.numbers.now in
    let lon_is = sym (c.coordinate.ensures m h from.1 ∙ ap (λ (v : ℕ). (node_at m v).lon) v) in
    let lat_is = sym (c.coordinate-2.ensures m h from.1 ∙ ap (λ (v : ℕ). (node_at m v).lat) v) in
    c.put3-2.ensures ∙ put_three 4 lat _
    ∙ ap (put_at 4 (bytes3 lat []))
    (c.put3.ensures ∙ put_three 1 lon _ ∙ ap (put_at 1 (bytes3 lon [])) (put_one 0 11 a.bytes.now (omega arith)))
    ∙ put_codes 11 lon lat a.bytes.now c.requires.room.1
    ∙ ap₂ (λ (x y : ℕ). put_at 0 (11 ∷ bytes3 x (bytes3 y [])) a.bytes.now) (c.longitude_code-lon.ensures _ lon_is) (c.latitude_code-lat.ensures _ lat_is)
