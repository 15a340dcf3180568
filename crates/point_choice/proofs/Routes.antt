-- Laws of routes, and of the route to take.
use Prim.Native.Nat.{ℕ, suc, ◌+◌, ◌≤◌, ◌<◌}
use mathlib.Core.Path.{◌≡◌, refl, sym, ap}
use mathlib.Core.Logic.{inl, inr}
use mathlib.Core.List.{List, [], ◌∷◌}
use native.Mathlib.Omega.{arith}
use lib.ListN.{length}
use Rattle.std.proofs.Common.{Option, None, Some}
use Rattle.point_choice.specs.Cuts.{Route, there, leg, FurtherFirst, same, more, later, Best, NoRoute, Fewest, FewestAnswers}

head_le : {a b : ℕ} {xs ys : List ℕ} → FurtherFirst (a ∷ xs) (b ∷ ys) → b ≤ a
head_le same = omega arith
head_le (more l) = omega arith
head_le (later h) = omega arith

behind : {a b : ℕ} {xs ys : List ℕ} → a ≡ b → FurtherFirst (a ∷ xs) (b ∷ ys) → FurtherFirst xs ys
behind e same = same
behind e (more l) = absurd (omega arith)
behind e (later h) = h

both : {xs ys : List ℕ} → FurtherFirst xs ys → FurtherFirst ys xs → xs ≡ ys
both same h = refl
both (more l) h = absurd (omega (arith, head_le h))
both (later {a} g) h = ap (λ (xs : List ℕ). a ∷ xs) (both g (behind refl h))

module _ {good : ℕ → ℕ → Type 0} {n : ℕ} where
  -- Each leg has a line at least.
  pub short : {i : ℕ} {cs : List ℕ} → Route good n i cs → i + length cs ≤ n
  short there = omega arith
  short (leg h g r) = omega (arith, short r)

  pub first_leg_lem : {i j : ℕ} {cs : List ℕ} → Route good n i (j ∷ cs) → (i < j) × good i j × Route good n j cs
  first_leg_lem (leg h g r) = (h, g, r)

  -- A route from before the end begins with a leg.
  pub by_leg : {i : ℕ} (P : List ℕ → Type 0) → i < n →
      ((k : ℕ) (ks : List ℕ) → i < k → good i k → Route good n k ks → P (k ∷ ks)) → {cs : List ℕ} → Route good n i cs → P cs
  by_leg P l f there = absurd (omega arith)
  by_leg P l f (leg h g r) = f _ _ h g r

  -- At the end nothing is left to cut.
  pub arrived : Best good n n []
  arrived = record { route = there; fewest = λ os r. omega arith; furthest = λ os r. none os }
    where
      none : (os : List ℕ) → length os ≡ 0 → FurtherFirst [] os
      none [] e = same
      none (x ∷ xs) e = absurd (omega arith)

  pub unique : {i : ℕ} {xs ys : List ℕ} → Best good n i xs → Best good n i ys → xs ≡ ys
  unique {xs = xs} {ys = ys} a b =
      let e : length ys ≡ length xs = omega (arith, a.fewest ys b.route, b.fewest xs a.route) in
      both (a.furthest ys b.route e) (b.furthest xs a.route (sym e))

  pub rest_best : {i j : ℕ} {cs : List ℕ} → Best good n i (j ∷ cs) → Best good n j cs
  rest_best {j = j} b =
      let f = first_leg_lem b.route in
      record {
        route = f.2;
        fewest = λ os r. omega (arith, b.fewest (j ∷ os) (leg f.0 f.1 r));
        furthest = λ os r e. behind refl (b.furthest (j ∷ os) (leg f.0 f.1 r) (ap suc e));
      }

  pub told_le : {i b : ℕ} {cs : List ℕ} → Fewest good n i b → Route good n i cs → b ≤ length cs
  told_le {cs = cs} (inl (os, best, e)) r = omega (arith, best.fewest cs r)
  told_le (inr (e, none)) r = absurd (none _ r)

  pub told_some : {i b : ℕ} → Fewest good n i b → (b ≡ 65 → ⊥) → (cs : List ℕ) × Best good n i cs × (length cs ≡ b)
  told_some (inl f) h = f
  told_some (inr (e, none)) h = absurd (h e)

  pub told_none : {i b : ℕ} → n ≤ 64 → Fewest good n i b → b ≡ 65 → NoRoute good n i
  told_none m (inl (cs, best, e)) h = absurd (omega (arith, short best.route))
  told_none m (inr (e, none)) h = none

-- The same over legs that are more, and over the same legs said otherwise.
pub wider : {P Q : ℕ → ℕ → Type 0} {n i : ℕ} {cs : List ℕ} → ((i j : ℕ) → i < j → j ≤ n → P i j → Q i j) → Route P n i cs → Route Q n i cs
wider f there = there
wider f (leg h g r) = leg h (f _ _ h (omega (arith, short r)) g) (wider f r)

module _ {P Q : ℕ → ℕ → Type 0} {n : ℕ} (f : (i j : ℕ) → i < j → j ≤ n → P i j → Q i j) (g : (i j : ℕ) → i < j → j ≤ n → Q i j → P i j) where
  best_same : {i : ℕ} {cs : List ℕ} → Best P n i cs → Best Q n i cs
  best_same b =
      record {
        route = wider f b.route;
        fewest = λ others r. b.fewest others (wider g r);
        furthest = λ others r e. b.furthest others (wider g r) e;
      }

  pub fewest_same : (legs : Option ℕ) → FewestAnswers P n legs → FewestAnswers Q n legs
  fewest_same (Some legs) (cs, b, e) = (cs, best_same b, e)
  fewest_same None none = λ cs r. none cs (wider g r)
