-- The legs of a reference, from its bytes and the nodes of its points; and what is promised of those nodes.
use Rattle.std.specs.Prelude.{ℕ, zero, suc, ◌+◌, ◌*◌, ◌≤◌, ◌<◌, ◌≡◌, cond, List, [], ◌∷◌, get_or, eqb, Result, Ok, Err}
use Rattle.model.specs.Map.{Map}
use Rattle.model.specs.Difference.{lon_sum, signed}
use Rattle.model.specs.Reference.{at2, attributes, point_at, reference_at}
use Rattle.model.specs.Reading.{Arrival, any, matching, Leg}
use Rattle.work_area.specs.Area.{Holds}
use Rattle.buffers.specs.Kept.{Kept}
use Rattle.references.specs.declared.node.Sought.{Sought}
use Rattle.references.specs.declared.node.Sought.TheVariants.{Moved}
use Rattle.model.specs.declared.Refusal.{Refusal}
use Rattle.model.specs.declared.Refusal.TheVariants.{NoNode}
use Rattle.model.specs.Locate as definitions

-- Where the P of point `k` stands.
abbrev pub place_p : ℕ → ℕ
place_p k = 7 + 7 * k

-- How leg `k` of so many ends: the last one as the last P and R say.
unfoldable pub arrival_at : List ℕ → ℕ → ℕ → Arrival
arrival_at bytes points k =
    cond (eqb (k + 1) points) (matching (attributes (get_or bytes (7 + 7 * points) 0) (get_or bytes (8 + 7 * points) 0))) any

-- Leg `k`: from the node of point `k` to that of the next, as the bytes of point `k` say.
unfoldable pub leg_at : List ℕ → ℕ → List ℕ → ℕ → Leg
leg_at bytes points places k =
    record {
      from = get_or places k 0;
      to = get_or places (k + 1) 0;
      leaves = (point_at bytes (place_p k)).leaves;
      lowest = (point_at bytes (place_p k)).lowest;
      distance = (point_at bytes (place_p k)).distance;
      arrival = arrival_at bytes points k;
    }

-- `count` legs from leg `k` on, and all of them.
unfoldable pub legs_on : List ℕ → ℕ → List ℕ → ℕ → ℕ → List Leg
legs_on bytes points places k zero = []
legs_on bytes points places k (suc count) = leg_at bytes points places k ∷ legs_on bytes points places (k + 1) count

abbrev pub legs_at : List ℕ → ℕ → List ℕ → List Leg
legs_at bytes points places = legs_on bytes points places 0 points

-- What tells the node of the point after point `k`, whose node is `from`.
unfoldable pub sought_after : List ℕ → List ℕ → ℕ → ℕ → Sought
sought_after bytes work k from =
    Moved (lon_sum (get_or work (2 * from) 0) (signed (at2 bytes (place_p k + 3)))) (get_or work (2 * from + 1) 0) (at2 bytes (place_p k + 5))

-- Every point has a node, and these are their nodes.
pub record AllFound (bytes : List ℕ) (points : ℕ) (work : List ℕ) (nodes : ℕ) (places : List ℕ) : Type 0 where
  pub below : (k : ℕ) → k ≤ points → get_or places k 0 < nodes
  pub located : (m : Map) (lines : ℕ) → Holds work nodes lines m →
      definitions.locate m (reference_at bytes points) ≡ definitions.located (legs_at bytes points places)

-- A refusal is that of a point without a node, on each map that the work area holds with so many nodes.
pub record PointMissing (bytes : List ℕ) (points : ℕ) (work : List ℕ) (nodes : ℕ) (why : Refusal) : Type 0 where
  pub point : ℕ
  pub is : why ≡ NoNode point
  pub missing : (m : Map) (lines : ℕ) → Holds work nodes lines m → definitions.locate m (reference_at bytes points) ≡ definitions.no_node point

-- What an answer says of the points.
abbrev pub PlacesOf : List ℕ → ℕ → List ℕ → ℕ → List ℕ → Result (Unit {0}) Refusal → Type 0
PlacesOf bytes points work nodes places (Ok _) = AllFound bytes points work nodes places
PlacesOf bytes points work nodes places (Err why) = PointMissing bytes points work nodes why

-- The table of nodes was `before` and is `after`: only its first points + 1 numbers are changed, and after a refusal nothing is said of those.
pub record PlacesPut (bytes : List ℕ) (points : ℕ) (work : List ℕ) (nodes : ℕ) (before after : List ℕ) (r : Result (Unit {0}) Refusal) : Type 0 where
  pub answers : PlacesOf bytes points work nodes after r
  pub kept : Kept 0 (points + 1) before after
