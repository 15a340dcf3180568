-- "A stretch none of whose nodes lie 18,000,000 or more apart in plain longitude gives the bytes it gave" (paper 02, W2).
use Prim.Native.Nat.{ℕ, ◌+◌, ◌-◌, ◌%◌, ◌<◌}
use mathlib.Core.Path.{◌≡◌, refl, sym, ap, ap₂, subst}
use mathlib.Core.List.Memᴰ
use mathlib.Core.List.{List, [], ◌∷◌, Memᴰ}
use native.Mathlib.Omega.{arith}
use Rattle.model.specs.Map.{Map}
use Rattle.model.specs.Difference.{Near, difference, half_circle, brought, lon_difference, DifferencesFit, differences}
use Rattle.model.specs.Lines.{node_at, Connected, single, linked, first_of, last_of}
use Rattle.model.specs.Reading.{joined}
use Rattle.model.specs.Stretch.{Stretch, StretchAnswer, remains, check_stretch}
use Rattle.model.specs.Choice.{from_node, to_node, good, Usable, final, before, Choice, point_of, points_of, reference_of, stretch_bytes}
use Rattle.model.specs.Outcome.{WriteOutcome, WriteStretch}
use Rattle.model.specs.AsBefore.{plain_differences, PlainFit, plain_good, plain_point, plain_points, plain_reference, plain_bytes, PlainStretch, NodeOf, Narrow, NarrowLeft, NarrowGiven, AsBefore}
use Rattle.model.proofs.Skipping.{Part, taken}
use Rattle.model.proofs.Joining.{connected, Inside, same_inside, first_inside, rest_inside}
use Rattle.model.proofs.Opened.{opens_by}
use Rattle.model.proofs.SameChoice.{Passes, choice_by, written_by}

-- ---- two longitudes less than half a circle apart

module _ (a b : ℕ) (back : a < b + half_circle) (on : b < a + half_circle) where
  -- The difference is the plain one, held with half a circle added.
  lon_plain : lon_difference a b ≡ b + half_circle - a
  unfolding lon_difference brought
  lon_plain = omega arith

  near_now : Near a b → Near half_circle (lon_difference a b)
  near_now n = record { back = omega (arith, lon_plain, n.back); on = omega (arith, lon_plain, n.on) }

  near_then : Near half_circle (lon_difference a b) → Near a b
  near_then n = record { back = omega (arith, lon_plain, n.back); on = omega (arith, lon_plain, n.on) }

  same_difference : difference a b ≡ difference half_circle (lon_difference a b)
  unfolding difference
  same_difference =
      let inner : b + 65_536 - a ≡ lon_difference a b + 65_536 - half_circle = omega (arith, lon_plain) in
      ap (λ (x : ℕ). x % 65_536) inner

-- ---- the same legs of narrow lines are good, and have the same points

ends_inside : {m : Map} {ls : List ℕ} → Connected m ls → Memᴰ (first_of ls) ls × Memᴰ (last_of ls) ls
unfolding first_of last_of
ends_inside (single h) = (Memᴰ.head refl, Memᴰ.head refl)
ends_inside (linked h f c) = (Memᴰ.head refl, Memᴰ.tail (ends_inside c).1)

module _ {m : Map} {lines : List ℕ} (narrow : Narrow m lines) where
  module _ {ls : List ℕ} (inside : Inside ls lines) (c : Connected m ls) where
    from_of : NodeOf m lines (from_node m ls)
    unfolding from_node
    from_of = NodeOf.starts (inside _ (ends_inside c).0)

    to_of : NodeOf m lines (to_node m ls)
    unfolding to_node
    to_of = NodeOf.ends (inside _ (ends_inside c).1)

    fit_now : PlainFit (node_at m (from_node m ls)) (node_at m (to_node m ls)) → DifferencesFit (node_at m (from_node m ls)) (node_at m (to_node m ls))
    fit_now f = record { lon = near_now _ _ (narrow _ _ to_of from_of) (narrow _ _ from_of to_of) f.lon; lat = f.lat }

    fit_then : DifferencesFit (node_at m (from_node m ls)) (node_at m (to_node m ls)) → PlainFit (node_at m (from_node m ls)) (node_at m (to_node m ls))
    fit_then f = record { lon = near_then _ _ (narrow _ _ to_of from_of) (narrow _ _ from_of to_of) f.lon; lat = f.lat }

    same_point : plain_point m ls ≡ point_of m ls
    unfolding plain_point plain_differences point_of differences
    same_point = rw (same_difference _ _ (narrow _ _ to_of from_of) (narrow _ _ from_of to_of))

  good_now : Passes (plain_good m) (good m) lines
  good_now at last ls i g = record { fit = fit_now i g.only.reading.allowed.connected g.fit; only = g.only }

  good_then : Passes (good m) (plain_good m) lines
  good_then at last ls i g = record { fit = fit_then i (connected g) g.fit; only = g.only }

  same_points : {at : ℕ} {lss : List (List ℕ)} → Inside (joined lss) lines → Usable (good m) at lss → plain_points m lss ≡ points_of m lss
  unfolding plain_points points_of
  same_points i (final {ls = ls} g) = ap₂ ◌∷◌ (same_point (first_inside ls [] i) (connected g)) refl
  same_points i (before {ls = ls} {ks = ks} {lss = lss} g u) =
      ap₂ ◌∷◌ (same_point (first_inside ls (ks ∷ lss) i) (connected g)) (same_points (rest_inside ls (ks ∷ lss) i) u)

-- ---- so what remains of a stretch has the outcome that it had

module _ (m : Map) (s : Stretch) (narrow : Narrow m s.lines) where
  same_bytes : (lss : List (List ℕ)) → Choice (good m) s.lines lss → stretch_bytes m lss s ≡ plain_bytes m lss s
  unfolding plain_bytes plain_reference stretch_bytes reference_of
  same_bytes lss c = rw (same_points narrow (same_inside c.whole) c.usable)

  on_now : (tests room : ℕ) (o : WriteOutcome) → PlainStretch m (remains s) tests room o → WriteStretch m (remains s) tests room o
  on_now tests room o h =
      written_by (good_now narrow) (good_then narrow) (λ lss. plain_bytes m lss s) (λ lss. stretch_bytes m lss s)
      (λ lss c. sym (same_bytes lss (choice_by (good_now narrow) c))) _ room h

  on_then : (tests room : ℕ) (o : WriteOutcome) → WriteStretch m (remains s) tests room o → PlainStretch m (remains s) tests room o
  on_then tests room o h =
      written_by (good_then narrow) (good_now narrow) (λ lss. stretch_bytes m lss s) (λ lss. plain_bytes m lss s) same_bytes _ room h

module _ (m : Map) (tests room : ℕ) (o : WriteOutcome) where
  stretch_now : (a : StretchAnswer) → ((r : Stretch) → a ≡ remains r → Narrow m r.lines) → PlainStretch m a tests room o → WriteStretch m a tests room o
  stretch_now (remains r) narrow h = on_now m r (narrow r refl) tests room o h
  stretch_now (StretchAnswer.refused r) narrow h = h

  stretch_then : (a : StretchAnswer) → ((r : Stretch) → a ≡ remains r → Narrow m r.lines) → WriteStretch m a tests room o → PlainStretch m a tests room o
  stretch_then (remains r) narrow h = on_then m r (narrow r refl) tests room o h
  stretch_then (StretchAnswer.refused r) narrow h = h

-- "Gives the bytes it gave": of the nodes of what remains.
pub as_before : AsBefore NarrowLeft
as_before =
    record {
      gives = λ mb s tests work room o narrow h.
          opens_by WriteOutcome.refused (λ m. PlainStretch m (check_stretch m s) tests room) (λ m. WriteStretch m (check_stretch m s) tests room) mb
          (λ m d. stretch_now m tests room o (check_stretch m s) (λ r e. narrow m r d e)) work h;
      gave = λ mb s tests work room o narrow h.
          opens_by WriteOutcome.refused (λ m. WriteStretch m (check_stretch m s) tests room) (λ m. PlainStretch m (check_stretch m s) tests room) mb
          (λ m d. stretch_then m tests room o (check_stretch m s) (λ r e. narrow m r d e)) work h;
    }

-- ---- the nodes of what remains are nodes of the stretch as given

part_inside : {ls ks : List ℕ} → Part ls ks → Inside ls ks
part_inside {ls} p l i = subst (λ (x : List ℕ). Memᴰ l x) p.whole (Memᴰ.append_right p.before (Memᴰ.append_left p.behind i))

node_inside : {m : Map} {ls ks : List ℕ} {v : ℕ} → Inside ls ks → NodeOf m ls v → NodeOf m ks v
node_inside i (NodeOf.starts j) = NodeOf.starts (i _ j)
node_inside i (NodeOf.ends j) = NodeOf.ends (i _ j)

narrow_left : (mb : List ℕ) (s : Stretch) → NarrowGiven mb s → NarrowLeft mb s
narrow_left mb s given m r d e v w p q =
    let inside = part_inside (taken m s r e).2 in
    given m d v w (node_inside inside p) (node_inside inside q)

-- So it is so of the stretch as given.
pub as_given : AsBefore NarrowGiven
as_given =
    record {
      gives = λ mb s tests work room o given. as_before.gives mb s tests work room o (narrow_left mb s given);
      gave = λ mb s tests work room o given. as_before.gave mb s tests work room o (narrow_left mb s given);
    }
