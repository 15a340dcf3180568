-- "Maps of one length that differ in one byte are always told apart" (W10): their sums differ.
use Prim.Native.Nat.{ℕ, zero, suc, ◌+◌, ◌*◌, ◌-◌, ◌/◌, ◌%◌, ◌≤◌, ◌<◌}
use mathlib.Core.Path.{◌≡◌, refl, sym}
use mathlib.Core.List.{List, [], ◌∷◌, ◌++◌}
use native.Mathlib.Omega.{arith}
use Rattle.model.specs.Front.{sum_factor, sum_modulus, summed, map_sum}

-- 257 has an inverse: 257 * 3,225,403,452 is 193 * 4,294,967,291 + 1. So no multiple of 257 below 257 times the modulus is one of the modulus.
no_multiple : (d q e : ℕ) → sum_factor * d ≡ sum_modulus * q → e + 193 * d ≡ 3_225_403_452 * q → d < sum_modulus → d ≡ 0
no_multiple d q zero h k l = omega arith
no_multiple d q (suc e) h k l = absurd (omega arith)

apart : (d q : ℕ) → sum_factor * d ≡ sum_modulus * q → d < sum_modulus → d ≡ 0
apart d q h l = no_multiple d q (3_225_403_452 * q - 193 * d) h (omega arith) l

-- A byte more: the sum before it can be told from the one after it.
sum_back_le : (s t b : ℕ) → s ≤ t → t < sum_modulus → (s * sum_factor + b) % sum_modulus ≡ (t * sum_factor + b) % sum_modulus → s ≡ t
sum_back_le s t b h k e =
    let q = (t * sum_factor + b) / sum_modulus - (s * sum_factor + b) / sum_modulus in
    let multiple : sum_factor * (t - s) ≡ sum_modulus * q = omega arith in
    let none : t - s ≡ 0 = apart (t - s) q multiple (omega arith) in
    omega arith

sum_back : (s t b : ℕ) → s < sum_modulus → t < sum_modulus → (s * sum_factor + b) % sum_modulus ≡ (t * sum_factor + b) % sum_modulus → s ≡ t
sum_back s t b h k e = go (s - t) (t - s) refl refl
  where
    go : (u v : ℕ) → s - t ≡ u → t - s ≡ v → s ≡ t
    go zero v d d' = sum_back_le s t b (omega arith) k e
    go (suc u) v d d' = sym (sum_back_le t s b (omega arith) h (sym e))

-- And so can the byte.
byte_back : (s x y : ℕ) → x < 256 → y < 256 → (s * sum_factor + x) % sum_modulus ≡ (s * sum_factor + y) % sum_modulus → x ≡ y
byte_back s x y h k e = omega arith

pub sum_low : (n : ℕ) → n % sum_modulus < sum_modulus
sum_low n = omega arith

pub summed_low : (s : ℕ) (bs : List ℕ) → s < sum_modulus → summed s bs < sum_modulus
unfolding summed
summed_low s [] h = h
summed_low s (b ∷ bs) h = summed_low ((s * sum_factor + b) % sum_modulus) bs (sum_low (s * sum_factor + b))

pub map_sum_low : (mb : List ℕ) → map_sum mb < sum_modulus
unfolding map_sum
map_sum_low mb = summed_low 0 mb (omega arith)

-- Sums that differ go on differing.
rest_back : (bs : List ℕ) (s t : ℕ) → s < sum_modulus → t < sum_modulus → summed s bs ≡ summed t bs → s ≡ t
unfolding summed
rest_back [] s t h k e = e
rest_back (b ∷ bs) s t h k e =
    sum_back s t b h k (rest_back bs ((s * sum_factor + b) % sum_modulus) ((t * sum_factor + b) % sum_modulus) (sum_low _) (sum_low _) e)

one_byte : (before : List ℕ) (s x y : ℕ) (bs : List ℕ) → x < 256 → y < 256 → summed s (before ++ x ∷ bs) ≡ summed s (before ++ y ∷ bs) → x ≡ y
unfolding summed
one_byte [] s x y bs h k e =
    byte_back s x y h k (rest_back bs ((s * sum_factor + x) % sum_modulus) ((s * sum_factor + y) % sum_modulus) (sum_low _) (sum_low _) e)
one_byte (a ∷ before) s x y bs h k e = one_byte before ((s * sum_factor + a) % sum_modulus) x y bs h k e

pub sums_differ : (before : List ℕ) (x y : ℕ) (bs : List ℕ) → x < 256 → y < 256 → (x ≡ y → ⊥) → map_sum (before ++ x ∷ bs) ≡ map_sum (before ++ y ∷ bs) → ⊥
unfolding map_sum
sums_differ before x y bs h k differ e = differ (one_byte before 0 x y bs h k e)
