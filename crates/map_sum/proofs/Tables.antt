-- The tables of the code: the weights in parts with a sign are the powers of 257, up to multiples of the modulus.
use Prim.Native.Nat.{ℕ, zero, suc, ◌+◌, ◌*◌, ◌%◌, ◌^◌}
use mathlib.Core.Path.{◌≡◌, refl, sym, ◌∙◌, ap}
use mathlib.Core.List.{List, [], ◌∷◌}
use native.Mathlib.Omega.{arith}
use lib.IntN.{ℤ, pos}
use lib.ListN.{length, take, get_or}
use Rattle.model.specs.Front.{sum_factor, sum_modulus}
use Rattle.map_sum.specs.Blocks.{dot, powers, low_weights, high_weights}
use Rattle.map_sum.proofs.Dots.{combined, dot_combined, rests, dot_rests, dot_take}
use Rattle.map_sum.proofs.Signed.{up, down}

-- The parts of a table above 0, and those below.
abbrev pub ups : List ℤ → List ℕ
ups [] = []
ups (z ∷ zs) = up z ∷ ups zs

abbrev pub downs : List ℤ → List ℕ
downs [] = []
downs (z ∷ zs) = down z ∷ downs zs

pub up_at : (zs : List ℤ) (i : ℕ) → get_or (ups zs) i 0 ≡ up (get_or zs i (pos 0))
up_at [] i = refl
up_at (z ∷ zs) zero = refl
up_at (z ∷ zs) (suc i) = up_at zs i

pub down_at : (zs : List ℤ) (i : ℕ) → get_or (downs zs) i 0 ≡ down (get_or zs i (pos 0))
down_at [] i = refl
down_at (z ∷ zs) zero = refl
down_at (z ∷ zs) (suc i) = down_at zs i

-- Each weight's parts make a power of 257, by the remainders of both.
tables : rests (combined 65_536 (ups high_weights) (ups low_weights))
    ≡ rests (combined 1 (powers 64) (combined 65_536 (downs high_weights) (downs low_weights)))
unfolding powers low_weights high_weights
tables = refl

same_count : (length (ups high_weights) ≡ length (ups low_weights)) × (length (downs high_weights) ≡ length (downs low_weights))
    × (length (powers 64) ≡ length (combined 65_536 (downs high_weights) (downs low_weights)))
unfolding powers low_weights high_weights
same_count = (refl, refl, refl)

-- Both tables have 64 weights, so only the first 64 bytes count.
pub ups_count : (bs : List ℕ) → (dot (take 64 bs) (ups high_weights) ≡ dot bs (ups high_weights))
    × (dot (take 64 bs) (ups low_weights) ≡ dot bs (ups low_weights))
unfolding low_weights high_weights
ups_count bs = (dot_take bs (ups high_weights), dot_take bs (ups low_weights))

pub downs_count : (bs : List ℕ) → (dot (take 64 bs) (downs high_weights) ≡ dot bs (downs high_weights))
    × (dot (take 64 bs) (downs low_weights) ≡ dot bs (downs low_weights))
unfolding low_weights high_weights
downs_count bs = (dot_take bs (downs high_weights), dot_take bs (downs low_weights))

-- A block's factor.
pub factor : sum_factor ^ 64 % sum_modulus ≡ 1_271_665_609
factor = refl

module _ (bs : List ℕ) where
  above : ℕ
  above = dot bs (combined 65_536 (ups high_weights) (ups low_weights))

  below : ℕ
  below = dot bs (combined 65_536 (downs high_weights) (downs low_weights))

  by_powers : above % sum_modulus ≡ (dot bs (powers 64) + below) % sum_modulus
  unfolding above below
  by_powers =
      let d = combined 65_536 (downs high_weights) (downs low_weights) in
      let e : dot bs (combined 1 (powers 64) d) ≡ dot bs (powers 64) + dot bs d = omega (arith, dot_combined 1 bs (powers 64) d same_count.2) in
      dot_rests bs _ ∙ ap (λ (ws : List ℕ). dot bs ws % sum_modulus) tables ∙ sym (dot_rests bs _) ∙ ap (λ (x : ℕ). x % sum_modulus) e

  pub block_value : (r : ℕ) → r + (65_536 * dot bs (downs high_weights) + dot bs (downs low_weights))
      ≡ 65_536 * dot bs (ups high_weights) + dot bs (ups low_weights) + 35_184_372_047_872 →
      r % sum_modulus ≡ dot bs (powers 64) % sum_modulus
  unfolding above below
  block_value r h =
      let u = dot_combined 65_536 bs (ups high_weights) (ups low_weights) same_count.0 in
      let d = dot_combined 65_536 bs (downs high_weights) (downs low_weights) same_count.1 in
      rest_of r (dot bs (powers 64)) above below (omega (arith, u, d, h)) by_powers
    where
      rest_of : (r w u d : ℕ) → r + d ≡ u + 35_184_372_047_872 → u % sum_modulus ≡ (w + d) % sum_modulus → r % sum_modulus ≡ w % sum_modulus
      rest_of r w u d h k = omega arith
