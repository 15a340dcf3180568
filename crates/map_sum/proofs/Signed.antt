-- A number with a sign as the difference of two numbers without one, so that sums and products of such numbers become facts on ℕ.
use Prim.Native.Nat.{ℕ, zero, suc, ◌+◌, ◌*◌, ◌-◌, ◌≤◌}
use mathlib.Core.Path.{◌≡◌, refl, sym, ◌∙◌, ap}
use mathlib.Core.Bool.{Bool, true, false, cond}
use native.Mathlib.Nat.{mul-add, mul-le-mul}
use native.Mathlib.Omega.{arith}
use lib.Dec.{ltb}
use lib.IntN.{ℤ, pos, negsuc, sub_ℕ, neg_ℤ, nat_abs, ◌+ℤ◌, ◌*ℤ◌}
use borrow.Author.Tests.{ltb-true, ltb-false}
use mir.Syntax.{w16, w32}
use mir.Val.{SFits}

-- `z` is `a` less `d`.
abbrev pub Net : ℤ → ℕ → ℕ → Type 0
Net (pos n) a d = n + d ≡ a
Net (negsuc n) a d = a + suc n ≡ d

net_same : (z : ℤ) (a d a' d' : ℕ) → Net z a d → a + d' ≡ a' + d → Net z a' d'
net_same (pos n) a d a' d' h e = omega arith
net_same (negsuc n) a d a' d' h e = omega arith

net_diff : (a d : ℕ) → Net (sub_ℕ a d) a d
net_diff a d = go (ltb a d) refl
  where
    go : (t : Bool) → ltb a d ≡ t → Net (cond t (negsuc (d - suc a)) (pos (a - d))) a d
    go true e = omega (arith, ltb-true a d e)
    go false e = omega (arith, ltb-false a d e)

pub net_add : (x y : ℤ) (a d b e : ℕ) → Net x a d → Net y b e → Net (x +ℤ y) (a + b) (d + e)
net_add (pos m) (pos n) a d b e h k = omega arith
net_add (pos m) (negsuc n) a d b e h k = net_same (sub_ℕ m (suc n)) m (suc n) (a + b) (d + e) (net_diff m (suc n)) (omega arith)
net_add (negsuc m) (pos n) a d b e h k = net_same (sub_ℕ n (suc m)) n (suc m) (a + b) (d + e) (net_diff n (suc m)) (omega arith)
net_add (negsuc m) (negsuc n) a d b e h k = omega arith

net_neg : (k a d : ℕ) → a + k ≡ d → Net (neg_ℤ (pos k)) a d
net_neg zero a d h = omega arith
net_neg (suc k) a d h = h

pub net_times : (b : ℕ) (z : ℤ) (a d : ℕ) → Net z a d → Net (pos b *ℤ z) (b * a) (b * d)
net_times b (pos n) a d h = sym (mul-add b n d) ∙ ap (λ (x : ℕ). b * x) h
net_times b (negsuc n) a d h = net_neg (b * suc n) (b * a) (b * d) (sym (mul-add b a (suc n)) ∙ ap (λ (x : ℕ). b * x) h)

-- The part of a number above 0, and the part below.
abbrev pub up : ℤ → ℕ
up (pos n) = n
up (negsuc n) = 0

abbrev pub down : ℤ → ℕ
down (pos n) = 0
down (negsuc n) = suc n

pub net_parts : (z : ℤ) → Net z (up z) (down z)
net_parts (pos n) = omega arith
net_parts (negsuc n) = omega arith

pub parts : (z : ℤ) → up z + down z ≡ nat_abs z
parts (pos n) = omega arith
parts (negsuc n) = omega arith

abs_net : (z : ℤ) (a d : ℕ) → Net z a d → nat_abs z ≤ a + d
abs_net (pos n) a d h = omega arith
abs_net (negsuc n) a d h = omega arith

pub abs_add : (x y : ℤ) → nat_abs (x +ℤ y) ≤ nat_abs x + nat_abs y
abs_add x y = omega (arith, abs_net (x +ℤ y) _ _ (net_add x y _ _ _ _ (net_parts x) (net_parts y)), parts x, parts y)

pub abs_times : (b : ℕ) (z : ℤ) (m n : ℕ) → b ≤ m → nat_abs z ≤ n → nat_abs (pos b *ℤ z) ≤ m * n
abs_times b z m n h k =
    omega (arith, abs_net (pos b *ℤ z) _ _ (net_times b z _ _ (net_parts z)), mul-add b (up z) (down z), ap (λ (x : ℕ). b * x) (parts z), mul-le-mul h k)

pub net_pos : (n : ℕ) → Net (pos n) n 0
net_pos n = omega arith

-- A number far within the range fits.
pub fits32 : (z : ℤ) → nat_abs z ≤ 2_147_483_647 → SFits w32 z
fits32 (pos n) h = record { sfits = omega arith }
fits32 (negsuc n) h = record { sfits = omega arith }

pub abs16 : (z : ℤ) → SFits w16 z → nat_abs z ≤ 32_768
abs16 (pos n) h = omega (arith, h.sfits)
abs16 (negsuc n) h = omega (arith, h.sfits)
