-- What the numbers of a point say of the leg that starts at it (paper 01, "The bytes").
use Rattle.std.specs.Prelude.{ℕ, ◌<◌, ◌≡◌, List, [], ◌∷◌}
use Rattle.model.specs.Map.{Map}
use Rattle.model.specs.Lines.{node_at}
use Rattle.model.specs.Difference.{differences}
use Rattle.model.specs.Reference.{bytes2, point_bytes}
use Rattle.model.specs.Choice.{from_node, to_node, point_of}
use Rattle.reference_bytes.specs.declared.point.Point.{Point}
use Rattle.reference_bytes.specs.declared.point.Differences.{Differences}

-- The differences between the ends of some lines.
pub record DifferencesAre (m : Map) (ls : List ℕ) (r : Differences) : Type 0 where
  pub lon : r.lon ≡ (differences (node_at m (from_node m ls)) (node_at m (to_node m ls))).lon
  pub lat : r.lat ≡ (differences (node_at m (from_node m ls)) (node_at m (to_node m ls))).lat

-- The bytes that the numbers of a point make.
unfoldable pub bytes_of_point : Point → List ℕ
bytes_of_point r = r.p ∷ r.q ∷ r.d ∷ bytes2 r.lon (bytes2 r.lat [])

-- They are those of the point that some lines start at, and P, Q and D are bytes.
pub record PointIs (m : Map) (ls : List ℕ) (r : Point) : Type 0 where
  pub bytes : bytes_of_point r ≡ point_bytes (point_of m ls ∷ []) []
  pub p : r.p < 256
  pub q : r.q < 256
  pub d : r.d < 256
