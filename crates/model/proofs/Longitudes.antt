-- "The difference brought into -18,000,000 to 17,999,999 by adding or taking 36,000,000, and the reader brings its sum back the same way" (paper 02, W2).
use Prim.Native.Nat.{ℕ, ◌+◌, ◌-◌, ◌*◌, ◌/◌, ◌≤◌, ◌<◌}
use mathlib.Core.Path.{◌≡◌}
use native.Mathlib.Omega.{arith}
use Rattle.model.specs.Difference.{circle, half_circle, brought, lon_difference, lon_sum}

-- What is brought lies in its range, and 36,000,000 is added to it (`times` is 0), or not (1), or taken (2).
brought_once : (x : ℕ) → x < 3 * circle → (brought x < circle) × (times : ℕ) × (times ≤ 2) × (x ≡ brought x + times * circle)
unfolding brought
brought_once x small = (omega arith, x / circle, omega arith, omega arith)

module _ (a b : ℕ) (small : a < circle) (small' : b < circle) where
  -- "By adding or taking 36,000,000": once at most, for the difference of two longitudes, and for the sum of a longitude and a difference.
  pub difference_once : (lon_difference a b < circle) × (times : ℕ) × (times ≤ 2) × (b + circle + half_circle - a ≡ lon_difference a b + times * circle)
  unfolding lon_difference
  difference_once = brought_once (b + circle + half_circle - a) (omega arith)

  pub sum_once : (lon_sum a b < circle) × (times : ℕ) × (times ≤ 2) × (a + circle + b - half_circle ≡ lon_sum a b + times * circle)
  unfolding lon_sum
  sum_once = brought_once (a + circle + b - half_circle) (omega arith)

  -- The sum undoes the difference, for any two longitudes.
  pub sum_undoes : lon_sum a (lon_difference a b) ≡ b
  unfolding lon_sum lon_difference brought
  sum_undoes = omega arith
