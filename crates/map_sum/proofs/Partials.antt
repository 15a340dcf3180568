-- The sum of a block's first bytes by one part of the weights: none at the start, one byte more, and the whole block.
use Prim.Native.Nat.{ℕ, ◌+◌, ◌*◌, ◌%◌, ◌≤◌, ◌<◌}
use mathlib.Core.Path.{◌≡◌, refl, sym, ◌∙◌, ap, subst}
use mathlib.Core.List.{List}
use native.Mathlib.Numerals.{add-one}
use native.Mathlib.Omega.{arith}
use lib.IntN.{ℤ, pos, nat_abs, ◌+ℤ◌, ◌*ℤ◌}
use lib.ListN.{length, take, drop, get_or, length-drop}
use lib.Seq.{get_or-drop}
use mir.Syntax.{w16, w32}
use mir.Val.{SFits, to_z, of_z}
use mir.Facts.{to_z-of_z}
use Rattle.model.specs.Front.{sum_modulus}
use Rattle.map_sum.specs.Blocks.{dot, powers, low_weights, high_weights}
use Rattle.map_sum.proofs.Dots.{dot_more}
use Rattle.map_sum.proofs.Signed.{Net, net_add, net_times, net_parts, fits32, up, down}
use Rattle.map_sum.proofs.Weighing.{total, net_total}
use Rattle.map_sum.proofs.Tables.{ups, downs, up_at, down_at, block_value, ups_count, downs_count}

-- `z` is the sum of the first `i` bytes by the weights `ws`.
pub record Partial (bs : List ℕ) (ws : List ℤ) (i : ℕ) (z : ℤ) : Type 0 where
  pub net : Net z (dot (take i bs) (ups ws)) (dot (take i bs) (downs ws))
  pub small : nat_abs z ≤ 8_355_840 * i

pub partial_none : (bs : List ℕ) (ws : List ℤ) → Partial bs ws 0 (pos 0)
unfolding dot
partial_none bs ws = record { net = refl; small = omega arith }

module _ (bs : List ℕ) (ws : List ℤ) (i : ℕ) (h : i < length bs) where
  more_of : (vs : List ℕ) (v : ℕ) → get_or vs i 0 ≡ v → dot (take (i + 1) bs) vs ≡ dot (take i bs) vs + get_or bs i 0 * v
  more_of vs v e = ap (λ (n : ℕ). dot (take n bs) vs) (add-one i) ∙ dot_more i bs vs h ∙ ap (λ (x : ℕ). dot (take i bs) vs + get_or bs i 0 * x) e

  more_net : (z r : ℤ) → Net z (dot (take i bs) (ups ws)) (dot (take i bs) (downs ws)) → r ≡ z +ℤ pos (get_or bs i 0) *ℤ get_or ws i (pos 0) →
      Net r (dot (take (i + 1) bs) (ups ws)) (dot (take (i + 1) bs) (downs ws))
  more_net z r n e =
      let w = get_or ws i (pos 0) in
      subst (λ (y : ℤ). Net y (dot (take (i + 1) bs) (ups ws)) (dot (take (i + 1) bs) (downs ws))) (sym e)
      (subst (λ (a : ℕ). Net (z +ℤ pos (get_or bs i 0) *ℤ w) a (dot (take (i + 1) bs) (downs ws))) (sym (more_of (ups ws) (up w) (up_at ws i)))
      (subst (λ (d : ℕ). Net (z +ℤ pos (get_or bs i 0) *ℤ w) (dot (take i bs) (ups ws) + get_or bs i 0 * up w) d) (sym (more_of (downs ws) (down w) (down_at ws i)))
      (net_add z (pos (get_or bs i 0) *ℤ w) _ _ _ _ n (net_times (get_or bs i 0) w (up w) (down w) (net_parts w)))))

  pub partial_more : (z r : ℤ) → Partial bs ws i z → r ≡ z +ℤ pos (get_or bs i 0) *ℤ get_or ws i (pos 0) → nat_abs r ≤ nat_abs z + 8_355_840 →
      Partial bs ws (i + 1) r
  partial_more z r p e s = record { net = more_net z r p.net e; small = omega (arith, p.small, s) }

-- One byte more, as the code does it: what is kept are the bits of the sum.
pub partial_again : (map : List ℕ) (ws : List ℤ) (at i : ℕ) → at + i < length map → (z r : ℤ) → Partial (drop at map) ws i z → i < 64 →
    SFits w16 (get_or ws i (pos 0)) → r ≡ z +ℤ pos (get_or map (at + i) 0) *ℤ to_z w16 (of_z w16 (get_or ws i (pos 0))) →
    nat_abs r ≤ nat_abs z + 8_355_840 → Partial (drop at map) ws (i + 1) (to_z w32 (of_z w32 r))
partial_again map ws at i h z r p l f e s =
    subst (λ (y : ℤ). Partial (drop at map) ws (i + 1) y) (sym (to_z-of_z (fits32 r (omega (arith, p.small, s)))))
    (partial_more (drop at map) ws i (simp length-drop (omega arith)) z r p
    (e ∙ ap (λ (w : ℤ). z +ℤ pos (get_or map (at + i) 0) *ℤ w) (to_z-of_z f) ∙ ap (λ (b : ℕ). z +ℤ pos b *ℤ get_or ws i (pos 0)) (sym (get_or-drop at map i 0))) s)

-- The sums of a whole block by both parts of the weights.
pub partial_all : (bs : List ℕ) (h l : ℤ) (r : ℕ) → Partial bs high_weights 64 h → Partial bs low_weights 64 l → pos r ≡ total h l →
    r % sum_modulus ≡ dot bs (powers 64) % sum_modulus
partial_all bs h l r p q e = block_value bs r (omega (arith, both, ups_count bs, downs_count bs))
  where
    both : r + (65_536 * dot (take 64 bs) (downs high_weights) + dot (take 64 bs) (downs low_weights) + 0)
        ≡ 65_536 * dot (take 64 bs) (ups high_weights) + dot (take 64 bs) (ups low_weights) + 35_184_372_047_872
    both =
        subst (λ (z : ℤ). Net z (65_536 * dot (take 64 bs) (ups high_weights) + dot (take 64 bs) (ups low_weights) + 35_184_372_047_872)
        (65_536 * dot (take 64 bs) (downs high_weights) + dot (take 64 bs) (downs low_weights) + 0)) (sym e)
        (net_total h l _ _ _ _ p.net q.net)
