-- The legs that a reference comes to on a map, where the nodes of its points are known up to some point.
use Prim.Native.Nat.{ℕ, zero, suc, ◌+◌, ◌*◌, ◌≤◌, ◌<◌}
use mathlib.Core.Path.{◌≡◌, refl, ap, ◌∙◌}
use mathlib.Core.List.{List}
use native.Mathlib.Decide.{dec_lt}
use native.Mathlib.Omega.{arith}
use lib.ListN.{get_or}
use borrow.Author.Tests.{eq-eqb, ne_eqb}
use Rattle.model.specs.Map.{Map}
use Rattle.model.specs.Lines.{LineAttributes, node_at}
use Rattle.model.specs.Difference.{stands_at}
use Rattle.model.specs.Reference.{at3, attributes, point_at, points_at, reference_at}
use Rattle.model.specs.Locate.{Found, found, missing, seek, Located, located, no_node, leg_first, arrival_before, legs_from, has_codes, locate}
use Rattle.references.specs.declared.node.Sought.TheVariants.{Codes}
use Rattle.references.specs.Node.{passes}
use Rattle.references.specs.Legs.{place_p, arrival_at, leg_at, legs_on, legs_at}

-- The search for the node after point `i`, whose node is `from`.
abbrev pub next_node : Map → List ℕ → ℕ → ℕ → Found
next_node m bytes i from = seek (stands_at (node_at m from) (point_at bytes (place_p i)).next) 0 m.nodes

-- On a map, the first point has a node and so have the `k` points after it: these.
pub record PointsFound (m : Map) (bytes places : List ℕ) (k : ℕ) : Type 0 where
  pub start : seek (has_codes (at3 bytes 1) (at3 bytes 4)) 0 m.nodes ≡ found (get_or places 0 0)
  pub steps : (i : ℕ) → i < k → next_node m bytes i (get_or places i 0) ≡ found (get_or places (i + 1) 0)

pub located_none : (m : Map) (bytes : List ℕ) (points : ℕ) → seek (passes (Codes (at3 bytes 1) (at3 bytes 4))) 0 m.nodes ≡ missing →
    locate m (reference_at bytes points) ≡ no_node 0
unfolding locate reference_at passes
located_none m bytes points gone = rw (gone, locate)

module _ (m : Map) (bytes : List ℕ) (points : ℕ) (places : List ℕ) where
  abbrev last : LineAttributes
  last = attributes (get_or bytes (7 + 7 * points) 0) (get_or bytes (8 + 7 * points) 0)

  -- The legs from point `i` on, of which `count` are left.
  abbrev legs_left : ℕ → ℕ → Located
  legs_left i count = legs_from m last (get_or places i 0) i (points_at bytes (place_p i) count)

  abbrev pub Step : ℕ → Type 0
  Step i = next_node m bytes i (get_or places i 0) ≡ found (get_or places (i + 1) 0)

  -- The last leg is the one with no point after it.
  arrives : (count i : ℕ) → i + suc count ≡ points → arrival_before (points_at bytes (place_p i + 7) count) last ≡ arrival_at bytes points i
  unfolding arrival_before points_at arrival_at
  arrives zero i e = rw (eq-eqb (i + 1) points (omega arith))
  arrives (suc count) i e = rw (ne_eqb (i + 1) points (λ q. absurd (omega arith)))

  -- One leg more, or none for want of a node; then every leg, or none past point `k`.
  leg_on : (count i : ℕ) → i + suc count ≡ points → Step i → legs_left i (suc count) ≡ leg_first (leg_at bytes points places i) (legs_left (i + 1) count)
  unfolding legs_from points_at leg_at
  leg_on count i e step =
      let next : place_p (i + 1) ≡ place_p i + 7 = omega arith in
      rw (step, arrives count i e, next, legs_from)

  leg_none : (count i : ℕ) → next_node m bytes i (get_or places i 0) ≡ missing → legs_left i (suc count) ≡ no_node (i + 1)
  unfolding legs_from points_at
  leg_none count i gone = rw (gone, legs_from)

  every_leg : (count i : ℕ) → i + count ≡ points → ((j : ℕ) → j < points → Step j) → legs_left i count ≡ located (legs_on bytes points places i count)
  unfolding legs_from points_at legs_on leg_first
  every_leg zero i e steps = refl
  every_leg (suc count) i e steps =
      leg_on count i e (steps i (omega arith)) ∙ ap (leg_first (leg_at bytes points places i)) (every_leg count (i + 1) (omega arith) steps)

  no_leg : (k count i : ℕ) → i + count ≡ points → i ≤ k → k < points → ((j : ℕ) → j < k → Step j) → next_node m bytes k (get_or places k 0) ≡ missing →
      legs_left i count ≡ no_node (k + 1)
  unfolding leg_first
  no_leg k zero i e before inside steps gone = absurd (omega arith)
  no_leg k (suc count) i e before inside steps gone =
      go (dec_lt i k) (λ l. no_leg k count (i + 1) (omega arith) l inside steps gone)
    where
      go : Dec (i < k) → (i + 1 ≤ k → legs_left (i + 1) count ≡ no_node (k + 1)) → legs_left i (suc count) ≡ no_node (k + 1)
      go (yes l) later = leg_on count i e (steps i l) ∙ ap (leg_first (leg_at bytes points places i)) (later (omega arith))
      go (no l) later = let here : k ≡ i = omega arith in rw here (leg_none count i (rw here at gone))

  pub located_all : PointsFound m bytes places points → locate m (reference_at bytes points) ≡ located (legs_at bytes points places)
  unfolding locate reference_at
  located_all path = rw (path.start, locate) (every_leg points 0 (omega arith) path.steps)

  pub located_up_to : (k : ℕ) → k < points → PointsFound m bytes places k → next_node m bytes k (get_or places k 0) ≡ missing →
      locate m (reference_at bytes points) ≡ no_node (k + 1)
  unfolding locate reference_at
  located_up_to k inside path gone = rw (path.start, locate) (no_leg k points 0 (omega arith) (omega arith) inside path.steps gone)
