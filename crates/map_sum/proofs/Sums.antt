-- The sum goes on behind the bytes that were summed: behind one byte, behind a block, and at the end.
use Prim.Native.Nat.{ℕ, zero, suc, ◌+◌, ◌*◌, ◌%◌, ◌/◌, ◌≤◌, ◌<◌, ◌^◌}
use mathlib.Core.Path.{◌≡◌, sym, ◌∙◌, ap}
use mathlib.Core.List.{List, [], ◌∷◌}
use native.Mathlib.Numerals.{add-one}
use native.Mathlib.Nat.{pow-succ', mul_comm, mul_assoc, add-mul}
use native.Mathlib.Omega.{arith}
use lib.ListN.{length, drop, get_or, drop_of_length-le, length-drop}
use lib.Seq.{drop-cons, drop-drop}
use Rattle.model.specs.Front.{sum_factor, sum_modulus, summed}
use Rattle.model.proofs.Sums.{sum_low}
use Rattle.map_sum.specs.Blocks.{dot, powers}
use Rattle.map_sum.proofs.Dots.{dot_none, times_rest}
use Rattle.map_sum.proofs.Tables.{factor}

-- Behind one byte.
pub sum_more : (s : ℕ) (map : List ℕ) (i : ℕ) → i < length map →
    summed s (drop i map) ≡ summed ((s * sum_factor + get_or map i 0) % sum_modulus) (drop (i + 1) map)
unfolding summed
sum_more s map i h = rw (add-one, drop-cons map i 0 h)

pub sum_all : (s : ℕ) (map : List ℕ) (i : ℕ) → length map ≤ i → summed s (drop i map) ≡ s
unfolding summed
sum_all s map i h = rw (drop_of_length-le map h)

-- A byte more before the bytes that weigh `d`; `f` is the weight of the byte.
weigh_more : (s b f d : ℕ) → ((s * sum_factor + b) % sum_modulus * f + d) % sum_modulus ≡ (s * (sum_factor * f) + (b * f + d)) % sum_modulus
weigh_more s b f d =
    let e : (s * sum_factor + b) * f ≡ s * (sum_factor * f) + b * f = add-mul (s * sum_factor) b f ∙ ap (λ (x : ℕ). x + b * f) (mul_assoc s sum_factor f) in
    rests_meet _ _ _ _ _ _ (times_rest f (s * sum_factor + b)) (mul_comm f (s * sum_factor + b) ∙ e) (mul_comm f ((s * sum_factor + b) % sum_modulus))
  where
    rests_meet : (x y z q v w : ℕ) → x ≡ y + sum_modulus * q → x ≡ v + w → y ≡ z → (z + d) % sum_modulus ≡ (v + (w + d)) % sum_modulus
    rests_meet x y z q v w h k l = omega arith

-- The first `n` bytes at once, by the powers of 257.
sum_front : (n s : ℕ) (bs : List ℕ) → s < sum_modulus → n ≤ length bs →
    summed s bs ≡ summed ((s * sum_factor ^ n + dot bs (powers n)) % sum_modulus) (drop n bs)
unfolding summed dot powers
sum_front zero s bs l h = ap (λ (x : ℕ). summed x bs) (omega (arith, dot_none bs))
sum_front (suc n) s [] l h = absurd (omega arith)
sum_front (suc n) s (b ∷ bs) l h =
    sum_front n ((s * sum_factor + b) % sum_modulus) bs (sum_low _) (omega arith)
    ∙ ap (λ (x : ℕ). summed x (drop n bs))
    (weigh_more s b (sum_factor ^ n) (dot bs (powers n))
    ∙ ap (λ (x : ℕ). (s * x + (b * sum_factor ^ n + dot bs (powers n))) % sum_modulus) (sym (pow-succ' sum_factor n)))

-- A block's step, as the code does it.
block_step : (s v r : ℕ) → r % sum_modulus ≡ v % sum_modulus → (s * 1_271_665_609 + r) % sum_modulus ≡ (s * sum_factor ^ 64 + v) % sum_modulus
block_step s v r h =
    meet _ _ _ (times_rest s (sum_factor ^ 64) ∙ ap (λ (x : ℕ). s * x + sum_modulus * (s * (sum_factor ^ 64 / sum_modulus))) factor)
  where
    meet : (x y q : ℕ) → x ≡ y + sum_modulus * q → (y + r) % sum_modulus ≡ (x + v) % sum_modulus
    meet x y q k = omega arith

pub sum_block : (s : ℕ) (map : List ℕ) (at r : ℕ) → s < sum_modulus → at + 64 ≤ length map → r % sum_modulus ≡ dot (drop at map) (powers 64) % sum_modulus →
    summed s (drop at map) ≡ summed ((s * 1_271_665_609 + r) % sum_modulus) (drop (at + 64) map)
sum_block s map at r l h e =
    sum_front 64 s (drop at map) l (simp length-drop (omega arith))
    ∙ ap (λ (x : ℕ). summed x (drop 64 (drop at map))) (sym (block_step s (dot (drop at map) (powers 64)) r e))
    ∙ ap (λ (bs : List ℕ). summed ((s * 1_271_665_609 + r) % sum_modulus) bs) (drop-drop 64 at map)
