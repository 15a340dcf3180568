-- Work areas that differ only within a range: such changes one after another, and within a wider range.
use Prim.Native.Nat.{ℕ, ◌≤◌, ◌+◌, ◌<◌}
use mathlib.Core.Path.{refl, ◌∙◌, ◌≡◌, sym, subst}
use mathlib.Core.List.{List}
use native.Mathlib.Omega.{arith}
use Rattle.buffers.specs.Kept.{Kept}
use mathlib.Core.Logic.{◌≢◌}
use native.Mathlib.Decide.{ℕ_discrete}
use lib.ListN.{length, get_or, set, length-set}
use lib.Seq.{get_or-set_same, get_or-set_other}

pub kept_none : {low high : ℕ} {w : List ℕ} → Kept low high w w
kept_none = record { same = refl; below = λ k h. refl; above = λ k h. refl }

pub kept_then : {low high : ℕ} {w v u : List ℕ} → Kept low high w v → Kept low high v u → Kept low high w u
kept_then p q =
    record { same = q.same ∙ p.same; below = λ k h. q.below k h ∙ p.below k h; above = λ k h. q.above k h ∙ p.above k h }

pub kept_within : {low high low' high' : ℕ} {w v : List ℕ} → low' ≤ low → high ≤ high' → Kept low high w v →
    Kept low' high' w v
kept_within l h p = record { same = p.same; below = λ k b. p.below k (omega arith); above = λ k a. p.above k (omega arith) }

-- Two changes one after another, each in its range.
pub kept_over : {low high low₁ high₁ low₂ high₂ : ℕ} {w v u : List ℕ} → (low ≤ low₁) × (high₁ ≤ high) × (low ≤ low₂) × (high₂ ≤ high) →
    Kept low₁ high₁ w v → Kept low₂ high₂ v u → Kept low high w u
kept_over (a, b, c, d) p q = kept_then (kept_within a b p) (kept_within c d q)

-- What holds at each place of a region after a store to one.
pub at_set : (P : ℕ → ℕ → Type 0) (w : List ℕ) (b j x : ℕ) → b + j < length w → P j x → ((l : ℕ) → l ≢ j → P l (get_or w (b + l) 0)) →
    (l : ℕ) → P l (get_or (set w (b + j) x) (b + l) 0)
at_set P w b j x fits here other l = go (ℕ_discrete l j)
  where
    go : Dec (l ≡ j) → P l (get_or (set w (b + j) x) (b + l) 0)
    go (yes e) = rw e (subst (P j) (sym (get_or-set_same w (b + j) x 0 fits)) here)
    go (no d) = subst (P l) (sym (get_or-set_other w (b + j) (b + l) x 0 (λ e. d (omega arith)))) (other l d)

module _ {lo hi : ℕ} where
  pub kept_sym : {w v : List ℕ} → Kept lo hi w v → Kept lo hi v w
  kept_sym a = record { same = sym a.same; below = λ x h. sym (a.below x h); above = λ x h. sym (a.above x h) }

  pub kept_set : {w : List ℕ} (a x : ℕ) → lo ≤ a → a < hi → Kept lo hi w (set w a x)
  kept_set {w} a x l h =
      record {
        same = simp length-set;
        below = λ b z. get_or-set_other w a b x 0 (omega arith);
        above = λ b z. get_or-set_other w a b x 0 (omega arith);
      }
