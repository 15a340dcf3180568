-- A difference that fits 16 bits leads back to the point that it was taken to, and to no other.
use Prim.Native.Nat.{ℕ, ◌+◌, ◌<◌}
use mathlib.Core.Path.{◌≡◌, refl, sym, ap, ◌∙◌}
use mathlib.Core.Bool.{Bool, true, false, cond}
use native.Mathlib.Omega.{arith}
use lib.Dec.{ltb, eqb}
use borrow.Author.Tests.{ltb-true, ltb-false, eqb-true, eq-eqb}
use Rattle.model.specs.Map.{Node}
use Rattle.model.specs.Difference.{Near, difference, moved, circle, half_circle, lon_difference, lon_sum, signed, DifferencesFit, differences, stands_at}
use Rattle.model.specs.WellFormed.{NodeOk}
use Rattle.model.proofs.Tests.{both}
use Rattle.model.proofs.Longitudes.{sum_undoes}

-- What a difference of 16 bits is more than the signed one: 65,536 for a negative one.
lift : ℕ → ℕ
lift d = cond (ltb d 32_768) 0 65_536

lift_difference : (a b : ℕ) → Near a b → b + lift (difference a b) ≡ a + difference a b
unfolding lift difference
lift_difference a b near = go (ltb (difference a b) 32_768) refl
  where
    go : (t : Bool) → ltb (difference a b) 32_768 ≡ t → b + cond t 0 65_536 ≡ a + difference a b
    go true e = omega (arith, ltb-true)
    go false e = omega (arith, ltb-false)

moved_there : (a b : ℕ) → Near a b → moved a (difference a b) b ≡ true
unfolding moved lift
moved_there a b near = eq-eqb _ _ (lift_difference a b near)

moved_only : (a b c : ℕ) → Near a b → moved a (difference a b) c ≡ true → c ≡ b
unfolding moved lift
moved_only a b c near e = omega (arith, eqb-true, lift_difference a b near)

pub difference_small : (a b : ℕ) → difference a b < 65_536
unfolding difference
difference_small a b = omega arith

-- ---- longitudes (W2)

-- A difference that fits 16 bits is the one that they stand for.
signed_back : (x : ℕ) → Near half_circle x → signed (difference half_circle x) ≡ x
unfolding signed lift
signed_back x near = omega (arith, lift_difference half_circle x near)

-- So its 16 bits lead to `b`.
lon_there : (a b : ℕ) → a < circle → b < circle → Near half_circle (lon_difference a b) →
    lon_sum a (signed (difference half_circle (lon_difference a b))) ≡ b
lon_there a b small small' near = ap (lon_sum a) (signed_back (lon_difference a b) near) ∙ sum_undoes a b small small'

-- ---- the two differences of two nodes

module _ (a b : Node) (ok : NodeOk a) (ok' : NodeOk b) (fit : DifferencesFit a b) where
  there : lon_sum a.lon (signed (difference half_circle (lon_difference a.lon b.lon))) ≡ b.lon
  there = lon_there a.lon b.lon (omega (arith, ok.lon)) (omega (arith, ok'.lon)) fit.lon

  pub stands_there : stands_at a (differences a b) b ≡ true
  unfolding stands_at differences
  stands_there = rw (eq-eqb _ _ there, moved_there _ _ fit.lat)

  pub stands_only : (c : Node) → stands_at a (differences a b) c ≡ true → c ≡ b
  unfolding stands_at differences
  stands_only c t =
      let t' = both (eqb (lon_sum a.lon (signed (difference half_circle (lon_difference a.lon b.lon)))) c.lon) _ t in
      let same : c.lon ≡ b.lon = sym (eqb-true _ _ t'.0) ∙ there in
      λ i. record { lon = same i; lat = moved_only _ _ _ fit.lat t'.1 i }
