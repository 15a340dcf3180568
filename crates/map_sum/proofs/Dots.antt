-- Sums of products: one more byte, weights in two parts, and weights of the same remainders.
use Prim.Native.Nat.{ℕ, zero, suc, ◌+◌, ◌*◌, ◌%◌, ◌/◌, ◌<◌}
use mathlib.Core.Path.{◌≡◌, refl, sym, ◌∙◌, ap}
use mathlib.Core.List.{List, [], ◌∷◌}
use native.Mathlib.Nat.{mul-add, mul_assoc, mul_comm, mul-zero}
use native.Mathlib.Omega.{arith}
use lib.ListN.{length, take, get_or}
use Rattle.model.specs.Front.{sum_modulus}
use Rattle.map_sum.specs.Blocks.{dot}

pub dot_none : (bs : List ℕ) → dot bs [] ≡ 0
unfolding dot
dot_none [] = refl
dot_none (b ∷ bs) = refl

-- One more byte.
pub dot_more : (j : ℕ) (bs ws : List ℕ) → j < length bs → dot (take (suc j) bs) ws ≡ dot (take j bs) ws + get_or bs j 0 * get_or ws j 0
unfolding dot
dot_more j [] ws h = absurd (omega arith)
dot_more zero (b ∷ bs) [] h = omega arith
dot_more zero (b ∷ bs) (w ∷ ws) h = omega arith
dot_more (suc j) (b ∷ bs) [] h = omega arith
dot_more (suc j) (b ∷ bs) (w ∷ ws) h = omega (arith, dot_more j bs ws (omega arith))

-- Only as many bytes count as there are weights.
pub dot_take : (bs ws : List ℕ) → dot (take (length ws) bs) ws ≡ dot bs ws
unfolding dot
dot_take [] [] = refl
dot_take [] (w ∷ ws) = refl
dot_take (b ∷ bs) [] = refl
dot_take (b ∷ bs) (w ∷ ws) = ap (λ (x : ℕ). b * w + x) (dot_take bs ws)

-- `k` times the first list and the second.
abbrev pub combined : ℕ → List ℕ → List ℕ → List ℕ
combined k [] ys = []
combined k (x ∷ xs) [] = []
combined k (x ∷ xs) (y ∷ ys) = (k * x + y) ∷ combined k xs ys

times_sum : (b k x y : ℕ) → b * (k * x + y) ≡ k * (b * x) + b * y
times_sum b k x y = mul-add b (k * x) y ∙ ap (λ (z : ℕ). z + b * y) (sym (mul_assoc b k x) ∙ ap (λ (z : ℕ). z * x) (mul_comm b k) ∙ mul_assoc k b x)

zero_times : (k : ℕ) → 0 ≡ k * 0 + 0
zero_times k = omega (arith, mul-zero k)

pub dot_combined : (k : ℕ) (bs xs ys : List ℕ) → length xs ≡ length ys → dot bs (combined k xs ys) ≡ k * dot bs xs + dot bs ys
unfolding dot
dot_combined k [] xs ys e = zero_times k
dot_combined k (b ∷ bs) [] [] e = zero_times k
dot_combined k (b ∷ bs) [] (y ∷ ys) e = absurd (omega arith)
dot_combined k (b ∷ bs) (x ∷ xs) [] e = absurd (omega arith)
dot_combined k (b ∷ bs) (x ∷ xs) (y ∷ ys) e =
    omega (arith, times_sum b k x y, dot_combined k bs xs ys (omega arith), mul-add k (b * x) (dot bs xs))

-- The remainders of a list.
abbrev pub rests : List ℕ → List ℕ
rests [] = []
rests (x ∷ xs) = (x % sum_modulus) ∷ rests xs

-- A multiple of the modulus does not count.
pub times_rest : (b x : ℕ) → b * x ≡ b * (x % sum_modulus) + sum_modulus * (b * (x / sum_modulus))
times_rest b x =
    let e : b * x ≡ b * (sum_modulus * (x / sum_modulus) + x % sum_modulus) = ap (λ (z : ℕ). b * z) (omega arith) in
    omega (arith, e, times_sum b sum_modulus (x / sum_modulus) (x % sum_modulus))

pub dot_rests : (bs ws : List ℕ) → dot bs ws % sum_modulus ≡ dot bs (rests ws) % sum_modulus
unfolding dot
dot_rests [] [] = refl
dot_rests [] (w ∷ ws) = refl
dot_rests (b ∷ bs) [] = refl
dot_rests (b ∷ bs) (w ∷ ws) = omega (arith, times_rest b w, dot_rests bs ws)
