-- The points of a written reference are found again, and its legs are the chosen ones.
use Prim.Native.Nat.{ℕ, ◌+◌}
use mathlib.Core.Path.{◌≡◌, refl, ◌∙◌, ap}
use mathlib.Core.Bool.{Bool, false}
use mathlib.Core.List.{List, [], ◌∷◌}
use Rattle.model.specs.Map.{Map}
use Rattle.model.specs.Difference.{stands_at}
use Rattle.model.specs.Lines.{LineAttributes, node_at, last_of, arriving}
use Rattle.model.specs.Reference.{Point}
use Rattle.model.specs.Reading.{joined}
use Rattle.model.specs.Stretch.{apart, gap}
use Rattle.model.specs.Choice.{from_node, to_node, arrival_of, leg_of, Good, good, Usable, final, before, point_of, points_of, first_leg, last_leg, reference_of}
use Rattle.model.specs.Locate.{found, seek, located, leg_first, arrival_before, legs_from, locate}
use Rattle.model.specs.WellFormed.{WellFormed}
use Rattle.model.proofs.Nodes.{by_codes, by_differences}
use Rattle.model.proofs.Skipping.{pair_suffix}
use Rattle.model.proofs.Joining.{connected, filled, from_known, to_known, legs_meet, first_leg_lem}
use Rattle.model.proofs.Legs.{legs_of}

-- One step of the search for points.
next_point : (m : Map) (last : LineAttributes) (v k : ℕ) (p : Point) (ps : List Point) (u : ℕ) →
    seek (stands_at (node_at m v) p.next) 0 m.nodes ≡ found u →
    legs_from m last v k (p ∷ ps) ≡
    leg_first
    (record { from = v; to = u; leaves = p.leaves; lowest = p.lowest; distance = p.distance; arrival = arrival_before ps last })
    (legs_from m last u (k + 1) ps)
unfolding legs_from
next_point m last v k p ps u e = rw (e, legs_from)

module _ {m : Map} (w : WellFormed m) where
  -- One leg: the point after it is found.
  leg_back : {end : Bool} {ls : List ℕ} (last : LineAttributes) (k : ℕ) (ps : List Point) → Good m end ls →
      arrival_before ps last ≡ arrival_of m end ls →
      legs_from m last (from_node m ls) k (point_of m ls ∷ ps) ≡ leg_first (leg_of m end ls) (legs_from m last (to_node m ls) (k + 1) ps)
  unfolding point_of leg_of
  leg_back {ls = ls} last k ps g arrives =
      let ok = w.node_ok _ (from_known w (connected g)) in
      next_point m last _ k (point_of m ls) ps (to_node m ls) (by_differences m w (to_node m ls) (to_known w (connected g)) _ ok g.fit)
      ∙ rw arrives

  legs_back : {at : ℕ} {lss : List (List ℕ)} (last : LineAttributes) (k : ℕ) → Usable (good m) at lss → gap m (joined lss) ≡ false →
      last ≡ arriving m (last_of (last_leg lss)) → legs_from m last (from_node m (first_leg lss)) k (points_of m lss) ≡ located (legs_of m lss)
  unfolding points_of legs_of first_leg last_leg joined legs_from leg_first arrival_before arrival_of
  legs_back last k (final g) e same = leg_back last k [] g (rw same)
  legs_back last k (before {ls = ls} {ks = ks} {lss = lss} g u) e same =
      leg_back last k (points_of m (ks ∷ lss)) g refl
      ∙ ap (leg_first (leg_of m false ls))
      (ap (λ (v : ℕ). legs_from m last v (k + 1) (points_of m (ks ∷ lss)))
      (legs_meet m ls ks (joined lss) (filled (connected g)) (filled (first_leg_lem u)) e)
      ∙ legs_back last (k + 1) u (pair_suffix (apart m) ls _ e) same)

  pub locate_back : (lss : List (List ℕ)) (pos neg : ℕ) → Usable (good m) 0 lss → gap m (joined lss) ≡ false →
      locate m (reference_of m lss pos neg) ≡ located (legs_of m lss)
  unfolding locate reference_of
  locate_back lss pos neg u e =
      rw (by_codes m w (from_node m (first_leg lss)) (from_known w (first_leg_lem u)), locate) (legs_back _ 0 u e refl)
