-- The nodes of a reference's points and the legs between them (paper 01, "What counts as a reading"; refusal 16).
use Rattle.std.specs.Prelude.{ℕ, ◌+◌, Bool, true, false, ◌&&◌, List, [], ◌∷◌, eqb}
use Rattle.model.specs.Map.{Node, Map, lon_code, lat_code}
use Rattle.model.specs.Difference.{stands_at}
use Rattle.model.specs.Lines.{LineAttributes, node_at}
use Rattle.model.specs.Reference.{Point, Reference}
use Rattle.model.specs.Reading.{Arrival, any, matching, Leg}

-- The first node that passes a test, counted from `v`. On a decoded map no other passes one of the tests below (proofs/Nodes.antt).
pub data Found : Type 0 where
  found : ℕ → Found
  missing : Found

unfoldable pub seek : (Node → Bool) → ℕ → List Node → Found
seek test v [] = missing
seek test v (a ∷ rest) = elim (test a) [ true ↦ found v | false ↦ seek test (v + 1) rest ]

-- The legs between the nodes of a reference's points, or the first "point with no node" (refusal 16).
pub data Located : Type 0 where
  located : List Leg → Located
  no_node : ℕ → Located

unfoldable pub leg_first : Leg → Located → Located
leg_first leg (located legs) = located (leg ∷ legs)
leg_first leg (no_node k) = no_node k

-- How a leg arrives that has these points after its own: the last one as the last P and R say.
unfoldable pub arrival_before : List Point → LineAttributes → Arrival
arrival_before [] last = matching last
arrival_before (p ∷ ps) last = any

-- The legs from node `v`, which is point `k`, on: "each later point is the node at the previous node's coordinates plus the differences".
unfoldable pub legs_from : Map → LineAttributes → ℕ → ℕ → List Point → Located
legs_from m last v k [] = located []
legs_from m last v k (p ∷ ps) =
    elim (seek (stands_at (node_at m v) p.next) 0 m.nodes) [
      | found u ↦
          leg_first
          (record {
            from = v;
            to = u;
            leaves = p.leaves;
            lowest = p.lowest;
            distance = p.distance;
            arrival = arrival_before ps last;
          })
          (legs_from m last u (k + 1) ps)
      | missing ↦ no_node (k + 1)
    ]

-- "The first point is the node with its two codes."
unfoldable pub has_codes : ℕ → ℕ → Node → Bool
has_codes lon lat a = eqb (lon_code a) lon && eqb (lat_code a) lat

unfoldable pub locate : Map → Reference → Located
locate m r =
    elim (seek (has_codes r.lon r.lat) 0 m.nodes) [
      | found v ↦ legs_from m r.arrives v 0 r.points
      | missing ↦ no_node 0
    ]
