-- The coordinates are those of the leg's two nodes.
use Rattle.std.proofs.Common.{ℕ, ◌∙◌, ap, ap₂, arith}
use Rattle.model.specs.Lines.{node_at}
use Rattle.model.specs.Difference.{difference, half_circle, lon_difference, differences}
use Rattle.model.proofs.Joining.{connected, filled}
use Rattle.stretches.proofs.Ends.{from_is, to_is}
use Rattle.reference_bytes.proofs.point.differences_of.Goals as goal

pub near_difference-lon-requires : goal.near_difference-lon-requires
near_difference-lon-requires c =
    let (m, _, h, good) = c.requires.held in
    let leg = c.args.leg.numbers.now in
    let from = c.node_of-from.ensures m h in
    let to = c.node_of-to.ensures m h in
    let lon_from = c.coordinate.ensures m h from.1 ∙ ap (λ (v : ℕ). (node_at m v).lon) (from.0 ∙ from_is m leg) in
    let lon_to = c.coordinate-2.ensures m h to.1 ∙ ap (λ (v : ℕ). (node_at m v).lon) (to.0 ∙ to_is m leg) in
    rw (c.longitude_difference-eastward.ensures ∙ ap₂ lon_difference lon_from lon_to) good.fit.lon

pub near_difference-lat-requires : goal.near_difference-lat-requires
near_difference-lat-requires c =
    let (m, _, h, good) = c.requires.held in
    let leg = c.args.leg.numbers.now in
    let from = c.node_of-from.ensures m h in
    let to = c.node_of-to.ensures m h in
    let lat_from = c.coordinate-3.ensures m h from.1 ∙ ap (λ (v : ℕ). (node_at m v).lat) (from.0 ∙ from_is m leg) in
    let lat_to = c.coordinate-4.ensures m h to.1 ∙ ap (λ (v : ℕ). (node_at m v).lat) (to.0 ∙ to_is m leg) in
    rw (lat_from, lat_to) good.fit.lat

pub returns : goal.returns
unfolding differences
returns c m last h good =
    let leg = c.args.leg.numbers.now in
    let from = c.node_of-from.ensures m h in
    let to = c.node_of-to.ensures m h in
    let lon_from = c.coordinate.ensures m h from.1 ∙ ap (λ (v : ℕ). (node_at m v).lon) (from.0 ∙ from_is m leg) in
    let lon_to = c.coordinate-2.ensures m h to.1 ∙ ap (λ (v : ℕ). (node_at m v).lon) (to.0 ∙ to_is m leg) in
    let lat_from = c.coordinate-3.ensures m h from.1 ∙ ap (λ (v : ℕ). (node_at m v).lat) (from.0 ∙ from_is m leg) in
    let lat_to = c.coordinate-4.ensures m h to.1 ∙ ap (λ (v : ℕ). (node_at m v).lat) (to.0 ∙ to_is m leg) in
    record {
      lon = c.near_difference-lon.ensures ∙ ap (difference half_circle) (c.longitude_difference-eastward.ensures ∙ ap₂ lon_difference lon_from lon_to);
      lat = c.near_difference-lat.ensures ∙ ap₂ difference lat_from lat_to;
    }

pub node_of-to-requires-clause-bounds : goal.node_of-to-requires-clause-bounds
node_of-to-requires-clause-bounds c =
    let (_, _, _, good) = c.requires.held in
    (omega (arith, filled (connected good)), omega arith)
