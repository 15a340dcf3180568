-- Connected lists of a well-formed map, and how they are joined.
use Prim.Native.Nat.{ℕ, ◌≤◌, ◌<◌}
use mathlib.Core.Path.{◌≡◌, ◌∙◌, ap, subst}
use mathlib.Core.Bool.{Bool, false}
use mathlib.Core.List.Memᴰ
use mathlib.Core.List.{List, [], ◌∷◌, ◌++◌, append-nil, Memᴰ}
use native.Mathlib.Omega.{arith}
use lib.ListN.{length, length-append}
use Rattle.model.specs.Map.{Map}
use Rattle.model.specs.Lines.{line_at, Connected, single, linked, total, lowest, first_of, last_of}
use Rattle.model.specs.Reading.{joined}
use Rattle.model.specs.Stretch.{apart, gap}
use Rattle.model.specs.Choice.{from_node, to_node, Good, good, Usable, final, before, first_leg, last_leg}
use Rattle.model.specs.WellFormed.{WellFormed, LineOk}
use Rattle.model.proofs.Every.{Every, none, also}
use Rattle.model.proofs.Skipping.{pair_between, meet, first_append, last_append}

pub first_known : {m : Map} {ls : List ℕ} → Connected m ls → first_of ls < length m.lines
unfolding first_of
first_known (single h) = h
first_known (linked h f c) = h

pub last_known : {m : Map} {ls : List ℕ} → Connected m ls → last_of ls < length m.lines
unfolding last_of
last_known (single h) = h
last_known (linked h f c) = last_known c

pub filled : {m : Map} {ls : List ℕ} → Connected m ls → 0 < length ls
filled (single h) = omega arith
filled (linked h f c) = omega arith

-- A line of a list is no longer than the list.
pub first_length : {m : Map} {ls : List ℕ} → Connected m ls → (line_at m (first_of ls)).length ≤ total m ls
unfolding total first_of
first_length (single h) = omega arith
first_length (linked h f c) = omega arith

pub last_length : {m : Map} {ls : List ℕ} → Connected m ls → (line_at m (last_of ls)).length ≤ total m ls
unfolding total last_of
last_length (single h) = omega arith
last_length (linked h f c) = omega (arith, last_length c)

pub connected : {m : Map} {last : Bool} {ls : List ℕ} → Good m last ls → Connected m ls
connected g = g.only.reading.allowed.connected

-- What the map's ranges say of a connected list's lines and ends.
module _ {m : Map} (w : WellFormed m) where
  pub first_ok : {ls : List ℕ} → Connected m ls → LineOk (length m.nodes) (line_at m (first_of ls))
  first_ok c = w.line_ok _ (first_known c)

  pub last_ok : {ls : List ℕ} → Connected m ls → LineOk (length m.nodes) (line_at m (last_of ls))
  last_ok c = w.line_ok _ (last_known c)

  pub lowest_small : {ls : List ℕ} → Connected m ls → lowest m ls ≤ 7
  unfolding lowest
  lowest_small (single {l = l} h) = omega (arith, (w.line_ok l h).frc)
  lowest_small (linked {l = l} h f c) = omega (arith, (w.line_ok l h).frc, lowest_small c)

  pub from_known : {ls : List ℕ} → Connected m ls → from_node m ls < length m.nodes
  unfolding from_node
  from_known c = (first_ok c).start

  pub to_known : {ls : List ℕ} → Connected m ls → to_node m ls < length m.nodes
  unfolding to_node
  to_known c = (last_ok c).end

-- Legs of a list without a gap: each ends where the next starts.
pub legs_meet : (m : Map) (xs ys zs : List ℕ) → 0 < length xs → 0 < length ys → gap m (xs ++ (ys ++ zs)) ≡ false →
    to_node m xs ≡ from_node m ys
unfolding to_node from_node
legs_meet m xs ys zs h k e = meet m _ _ (pair_between (apart m) xs ys zs h k e)

pub first_leg_lem : {m : Map} {at : ℕ} {lss : List (List ℕ)} → Usable (good m) at lss → Connected m (first_leg lss)
unfolding first_leg
first_leg_lem (final g) = connected g
first_leg_lem (before g u) = connected g

pub each_leg : {m : Map} {at : ℕ} {lss : List (List ℕ)} → Usable (good m) at lss → Every (Connected m) lss
each_leg (final g) = also (connected g) none
each_leg (before g u) = also (connected g) (each_leg u)

pub last_leg_lem : {m : Map} {at : ℕ} {lss : List (List ℕ)} → Usable (good m) at lss → Connected m (last_leg lss)
unfolding last_leg
last_leg_lem (final g) = connected g
last_leg_lem (before g u) = last_leg_lem u

-- The number of legs, the first and the last line of a joining.
pub as_many : {m : Map} {at : ℕ} {lss : List (List ℕ)} → Usable (good m) at lss → (1 ≤ length lss) × (length lss ≤ length (joined lss))
unfolding joined
as_many (final {ls = ls} g) = (omega arith, omega (arith, length-append ls [], filled (connected g)))
as_many (before {ls = ls} {ks = ks} {lss = lss} g u) =
    (omega arith, omega (arith, length-append ls (joined (ks ∷ lss)), filled (connected g), as_many u))

pub first_joined : {m : Map} {at : ℕ} {lss : List (List ℕ)} → Usable (good m) at lss → first_of (joined lss) ≡ first_of (first_leg lss)
unfolding joined first_leg
first_joined (final g) = first_append _ _ (filled (connected g))
first_joined (before g u) = first_append _ _ (filled (connected g))

pub last_joined : {m : Map} {at : ℕ} {lss : List (List ℕ)} → Usable (good m) at lss → last_of (joined lss) ≡ last_of (last_leg lss)
unfolding joined last_leg
last_joined (final {ls = ls} g) = ap last_of (append-nil ls)
last_joined (before {ls = ls} {ks = ks} {lss = lss} g u) =
    last_append ls (joined (ks ∷ lss)) (omega (arith, as_many u)) ∙ last_joined u

-- Each of some lines is one of some others.
abbrev pub Inside : List ℕ → List ℕ → Type 0
Inside ls ks = (l : ℕ) → Memᴰ l ls → Memᴰ l ks

pub same_inside : {ls ks : List ℕ} → ls ≡ ks → Inside ls ks
same_inside e l j = subst (λ (x : List ℕ). Memᴰ l x) e j

module _ (ls : List ℕ) (lss : List (List ℕ)) {lines : List ℕ} where
  -- The first leg, and the rest.
  pub first_inside : Inside (joined (ls ∷ lss)) lines → Inside ls lines
  unfolding joined
  first_inside i l j = i l (Memᴰ.append_left (joined lss) j)

  pub rest_inside : Inside (joined (ls ∷ lss)) lines → Inside (joined lss) lines
  unfolding joined
  rest_inside i l j = i l (Memᴰ.append_right ls j)
