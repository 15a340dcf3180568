-- The table of the points' nodes, one point at a time: what it holds after k points, and what that comes to.
use Prim.Native.Nat.{ℕ, ◌+◌, ◌≤◌, ◌<◌}
use mathlib.Core.Path.{◌≡◌, sym, ap, ◌∙◌}
use mathlib.Core.List.{List}
use native.Mathlib.Omega.{arith}
use lib.ListN.{length, get_or, set, length-set}
use lib.Seq.{get_or-set_same, get_or-set_other}
use borrow.Author.Count.{below_more}
use Rattle.model.specs.Map.{Node, Map}
use Rattle.model.specs.Difference.{stands_at}
use Rattle.model.specs.Reference.{at3, point_at, reference_at}
use Rattle.model.specs.Locate.{found, missing, seek, no_node, locate}
use Rattle.work_area.specs.Area.{Holds}
use Rattle.buffers.specs.Kept.{Kept}
use Rattle.work_area.proofs.Holding.{lon_at, lat_at}
use Rattle.work_area.proofs.Held.{node_path}
use Rattle.references.specs.declared.node.Sought.{Sought}
use Rattle.references.specs.declared.node.Sought.TheVariants.{Codes}
use Rattle.references.specs.Node.{passes}
use Rattle.references.specs.Legs.{place_p, sought_after, AllFound}
use Rattle.buffers.proofs.Kept.{kept_then}
use Rattle.references.proofs.Located.{next_node, PointsFound, Step, located_all, located_up_to}

-- The table holds the nodes of the first point and of the `k` points after it, on each map that the work area holds.
pub record Tracked (bytes work : List ℕ) (nodes k : ℕ) (places : List ℕ) : Type 0 where
  pub below : (i : ℕ) → i ≤ k → get_or places i 0 < nodes
  pub path : (m : Map) (lines : ℕ) → Holds work nodes lines m → PointsFound m bytes places k

-- ---- one point more

-- A store into the first points + 1 numbers keeps the others.
pub kept_set : {before places : List ℕ} (points k v : ℕ) → k ≤ points → Kept 0 (points + 1) before places → Kept 0 (points + 1) before (set places k v)
kept_set {places = places} points k v inside kept =
    kept_then kept
    (record { same = length-set places k v; below = λ i l. absurd (omega arith); above = λ i l. get_or-set_other places k i v 0 (λ e. omega arith) })

module _ (bytes work : List ℕ) (nodes : ℕ) where
  -- What the search for a node says.
  abbrev FindsNode : Sought → ℕ → Type 0
  FindsNode sought v = (v < nodes) × ((m : Map) (lines : ℕ) → Holds work nodes lines m → seek (passes sought) 0 m.nodes ≡ found v)

  seeks_next : {m : Map} {lines : ℕ} → Holds work nodes lines m → (k from : ℕ) → from < nodes →
      seek (passes (sought_after bytes work k from)) 0 m.nodes ≡ next_node m bytes k from
  unfolding passes sought_after stands_at point_at
  seeks_next {m = m} h k from known =
      ap (λ (a : Node). seek (stands_at a (point_at bytes (place_p k)).next) 0 m.nodes) (node_path (lon_at h from known) (lat_at h from known))

  module _ (places : List ℕ) (v : ℕ) where
    pub tracked_first : 0 < length places → FindsNode (Codes (at3 bytes 1) (at3 bytes 4)) v → Tracked bytes work nodes 0 (set places 0 v)
    unfolding passes
    tracked_first some (small, finds) =
        let here = get_or-set_same places 0 v 0 some in
        record {
          below = λ i l. let e : i ≡ 0 = omega arith in rw (e, here) small;
          path = λ m lines h. record { start = finds m lines h ∙ ap found (sym here); steps = λ i l. absurd (omega arith) };
        }

    pub tracked_more : (k : ℕ) → k + 1 < length places → Tracked bytes work nodes k places → FindsNode (sought_after bytes work k (get_or places k 0)) v →
        Tracked bytes work nodes (k + 1) (set places (k + 1) v)
    tracked_more k inside t (small, finds) =
        let here = get_or-set_same places (k + 1) v 0 inside in
        let kept : (i : ℕ) → i ≤ k → get_or (set places (k + 1) v) i 0 ≡ get_or places i 0 = λ i l. get_or-set_other places (k + 1) i v 0 (λ e. omega arith) in
        record {
          below = λ i l.
              below_more (λ i. get_or (set places (k + 1) v) i 0 < nodes) (k + 1)
              (λ i l. rw (kept i (omega arith)) (t.below i (omega arith)))
              (rw here small)
              i (omega arith);
          path = λ m lines h.
              record {
                start = (t.path m lines h).start ∙ ap found (sym (kept 0 (omega arith)));
                steps =
                    below_more (Step m bytes (k + 1) (set places (k + 1) v)) k
                    (λ i l. rw (kept i (omega arith), kept (i + 1) (omega arith)) ((t.path m lines h).steps i l))
                    (rw (kept k (omega arith), here) (sym (seeks_next h k (get_or places k 0) (t.below k (omega arith))) ∙ finds m lines h));
              };
        }

  -- ---- the last point, and a point without a node

  module _ (points : ℕ) (places : List ℕ) (k : ℕ) where
    pub tracked_all : k ≡ points → Tracked bytes work nodes k places → AllFound bytes points work nodes places
    tracked_all e t =
        record { below = λ i l. t.below i (omega arith); located = λ m lines h. located_all m bytes points places (rw e at (t.path m lines h)) }

    pub tracked_no_more : k < points → Tracked bytes work nodes k places → (m : Map) (lines : ℕ) → Holds work nodes lines m →
        seek (passes (sought_after bytes work k (get_or places k 0))) 0 m.nodes ≡ missing → locate m (reference_at bytes points) ≡ no_node (k + 1)
    tracked_no_more inside t m lines h gone =
        located_up_to m bytes points places k inside (t.path m lines h) (sym (seeks_next h k (get_or places k 0) (t.below k (omega arith))) ∙ gone)
