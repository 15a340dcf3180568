-- What the signed steps of the code give. A signed local holds bits: each step is read back as the number that the bits stand for.
use Prim.Native.Nat.{ℕ, ◌+◌, ◌*◌, ◌≤◌, ◌<◌}
use mathlib.Core.Path.{◌≡◌, sym, ◌∙◌, ap, subst}
use native.Mathlib.Omega.{arith}
use lib.Dec.{T, leb}
use lib.IntN.{ℤ, pos, nat_abs, ◌+ℤ◌, ◌*ℤ◌}
use mir.Syntax.{Width, w16, w32}
use mir.Val.{SFits, hbits, to_z, of_z}
use mir.Facts.{to_z-of_z, sfits_widen}
use Rattle.map_sum.proofs.Signed.{Net, net_add, net_times, net_pos, abs_add, abs_times, fits32, abs16}

-- The number that is read back from the bits of `z`.
abbrev back : Width → ℤ → ℤ
back w z = to_z w (of_z w z)

module _ {w : Width} (w' : Width) {z : ℤ} (wider : T (leb (hbits w) (hbits w'))) (fits : SFits w z) where
  widened : back w' (back w z) ≡ z
  widened = ap (back w') (to_z-of_z fits) ∙ to_z-of_z {w = w'} (sfits_widen wider fits)

-- A sum and a weighed byte more, as the code makes them.
abbrev product : ℕ → ℤ → ℤ
product b w = to_z w32 b *ℤ back w32 (back w16 w)

abbrev more : ℤ → ℕ → ℤ → ℤ
more s b w = back w32 s +ℤ back w32 (product b w)

pub record Weighs (s : ℤ) (b : ℕ) (w : ℤ) : Type 0 where
  pub is : back w32 (more s b w) ≡ s +ℤ pos b *ℤ w
  pub small : nat_abs (back w32 (more s b w)) ≤ nat_abs s + 8_355_840

pub weighs : (s : ℤ) (b : ℕ) (w : ℤ) → SFits w32 s → b < 256 → SFits w16 w → nat_abs s ≤ 526_417_920 → Weighs s b w
weighs s b w fs low fw room =
    record {
      is = result_is;
      small = subst (λ (z : ℤ). nat_abs z ≤ nat_abs s + 8_355_840) (sym result_is) more_low;
    }
  where
    product_low : nat_abs (pos b *ℤ w) ≤ 8_355_840
    product_low = abs_times b w 255 32_768 (omega arith) (abs16 w fw)

    product_fit : SFits w32 (pos b *ℤ w)
    product_fit = fits32 (pos b *ℤ w) (omega (arith, product_low))

    byte_is : to_z w32 b ≡ pos b
    byte_is = to_z-of_z {w = w32} {z = pos b} (record { sfits = omega arith })

    product_is : product b w ≡ pos b *ℤ w
    product_is i = byte_is i *ℤ widened w32 tt fw i

    more_low : nat_abs (s +ℤ pos b *ℤ w) ≤ nat_abs s + 8_355_840
    more_low = omega (arith, abs_add s (pos b *ℤ w), product_low)

    more_fit : SFits w32 (s +ℤ pos b *ℤ w)
    more_fit = fits32 (s +ℤ pos b *ℤ w) (omega (arith, more_low))

    more_is : more s b w ≡ s +ℤ pos b *ℤ w
    more_is i = to_z-of_z fs i +ℤ (ap (back w32) product_is ∙ to_z-of_z product_fit) i

    result_is : back w32 (more s b w) ≡ s +ℤ pos b *ℤ w
    result_is = ap (back w32) more_is ∙ to_z-of_z more_fit

-- The two sums of a block as one.
abbrev pub total : ℤ → ℤ → ℤ
total h l = pos 65_536 *ℤ h +ℤ l +ℤ pos 35_184_372_047_872

pub net_total : (h l : ℤ) (a d b e : ℕ) → Net h a d → Net l b e → Net (total h l) (65_536 * a + b + 35_184_372_047_872) (65_536 * d + e + 0)
net_total h l a d b e n m =
    net_add (pos 65_536 *ℤ h +ℤ l) (pos 35_184_372_047_872) (65_536 * a + b) (65_536 * d + e) 35_184_372_047_872 0
    (net_add (pos 65_536 *ℤ h) l (65_536 * a) (65_536 * d) b e (net_times 65_536 h a d n) m) (net_pos 35_184_372_047_872)
