-- Numbers stored one after another: they stand where they were put, and the others are kept.
use Prim.Native.Nat.{ℕ, zero, suc, ◌+◌, ◌≤◌, ◌<◌}
use mathlib.Core.Path.{◌≡◌, refl, sym, subst, ◌∙◌}
use mathlib.Core.List.{List, [], ◌∷◌}
use native.Mathlib.Nat.{add-zero}
use native.Mathlib.Omega.{arith}
use lib.ListN.{length, get_or, set, length-set}
use lib.Seq.{sets, length-sets, get_or-set_same, get_or-set_other}
use Rattle.buffers.specs.Kept.{Kept}

below : (vs w : List ℕ) (at k : ℕ) → k < at → get_or (sets w at vs) k 0 ≡ get_or w k 0
below [] w at k h = refl
below (v ∷ vs) w at k h = below vs (set w at v) (suc at) k (omega arith) ∙ get_or-set_other w at k v 0 (omega arith)

above : (vs w : List ℕ) (at k : ℕ) → at + length vs ≤ k → get_or (sets w at vs) k 0 ≡ get_or w k 0
above [] w at k h = refl
above (v ∷ vs) w at k h = above vs (set w at v) (suc at) k (omega arith) ∙ get_or-set_other w at k v 0 (omega arith)

in_place : (vs w : List ℕ) (at k : ℕ) → at + length vs ≤ length w → k < length vs → get_or (sets w at vs) (at + k) 0 ≡ get_or vs k 0
in_place [] w at k h p = absurd (omega arith)
in_place (v ∷ vs) w at zero h p = rw add-zero (below vs (set w at v) (suc at) at (omega arith) ∙ get_or-set_same w at v 0 (omega arith))
in_place (v ∷ vs) w at (suc k) h p =
    let e : at + suc k ≡ suc at + k = omega arith in
    rw e (in_place vs (set w at v) (suc at) k (rw length-set (omega arith)) (omega arith))

-- The area was `w` and is `v`, with the numbers `vs` from `at` on.
pub record Stored (vs : List ℕ) (at : ℕ) (w v : List ℕ) : Type 0 where
  pub kept : Kept at (at + length vs) w v
  pub held : (k : ℕ) → k < length vs → get_or v (at + k) 0 ≡ get_or vs k 0

pub stored : {v : List ℕ} (vs w : List ℕ) (at : ℕ) → at + length vs ≤ length w → v ≡ sets w at vs → Stored vs at w v
stored vs w at fits e =
    subst (Stored vs at w) (sym e)
    (record {
      kept = record { same = length-sets w at vs; below = below vs w at; above = above vs w at };
      held = λ k h. in_place vs w at k fits h;
    })

pub stored_first : {x : ℕ} {vs w v : List ℕ} (at : ℕ) → Stored (x ∷ vs) at w v → get_or v at 0 ≡ x
stored_first at s = rw add-zero at (s.held 0 (omega arith))
