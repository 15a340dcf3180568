-- The scan over the legs from a position, up to those that end before `j`.
use Prim.Native.Nat.{ℕ, suc, ◌+◌, ◌≤◌, ◌<◌}
use mathlib.Core.Path.{◌≡◌, refl}
use mathlib.Core.Logic.{◌⊎◌, inl, inr, ⊎_elim, ⊎_map}
use mathlib.Core.List.{List, ◌∷◌}
use native.Mathlib.Nat.{eq-or-lt_of_le}
use native.Mathlib.Omega.{arith}
use borrow.Author.Count.{below_more}
use lib.ListN.{length, get_or}
use Rattle.point_choice.specs.Cuts.{Route, leg, FurtherFirst, more, later, Best, NoRoute, Fewest, TellsFewest, FirstCut}
use Rattle.point_choice.proofs.Routes.{short, by_leg, told_le}

-- After the leg to `k` come more than `least` legs, or as many and it is no longer than the leg to `to`.
abbrev pub Outdone : List ℕ → ℕ → ℕ → ℕ → Type 0
Outdone best to least k = (least < get_or best k 0) ⊎ ((least ≡ get_or best k 0) × (k ≤ to))

-- The scan so far, of the legs from `i` that end before `j`.
pub record Scanned (good : ℕ → ℕ → Type 0) (best : List ℕ) (i j to least : ℕ) : Type 0 where
  pub bound : least ≤ 64
  pub found : (least ≡ 64) ⊎ ((i < to) × (to < j) × good i to × (least ≡ get_or best to 0))
  pub passed : (k : ℕ) → k < j → i < k → good i k → Outdone best to least k

module _ {good : ℕ → ℕ → Type 0} {best : List ℕ} {i : ℕ} where
  pub begun : Scanned good best i (i + 1) i 64
  begun = record { bound = omega arith; found = inl refl; passed = λ k h l g. absurd (omega arith) }

  pub kept : {j to least : ℕ} → Scanned good best i j to least → (good i j → least < get_or best j 0) → Scanned good best i (j + 1) to least
  kept s h =
      record {
        bound = s.bound;
        found = ⊎_map (λ e. e) (λ t. (t.0, omega arith, t.2, t.3)) s.found;
        passed = below_more _ _ s.passed (λ l g. inl (h g));
      }

  pub taken : {j to least : ℕ} → Scanned good best i j to least → i < j → good i j → get_or best j 0 ≤ least →
      Scanned good best i (j + 1) j (get_or best j 0)
  taken {j} {to} {least} s l g h =
      record {
        bound = omega (arith, s.bound);
        found = inr (omega arith, omega arith, g, refl);
        passed = below_more _ _ (λ k b f q. better k b (s.passed k b f q)) (λ f q. inr (refl, omega arith));
      }
    where
      better : (k : ℕ) → k < j → Outdone best to least k → Outdone best j (get_or best j 0) k
      better k b o =
          let le : get_or best j 0 ≤ get_or best k 0 = ⊎_elim (λ w. omega arith) (λ w. omega arith) o in
          ⊎_elim (λ e. inr (e, omega arith)) inl (eq-or-lt_of_le le)

module _ {good : ℕ → ℕ → Type 0} {n : ℕ} {best : List ℕ} {i to least : ℕ}
    (l : i < n) (tells : TellsFewest good n best (i + 1)) (s : Scanned good best i (n + 1) to least) where
  -- After the first leg of any route come more legs, or at least as many and it is no longer.
  rival : (k : ℕ) (ks : List ℕ) → i < k → good i k → Route good n k ks → (least < length ks) ⊎ ((least ≤ length ks) × (k ≤ to))
  rival k ks h g r =
      let m = short r in
      let t = told_le (tells k (omega arith) (omega arith)) r in
      ⊎_map (λ w. omega arith) (λ w. (omega arith, w.1)) (s.passed k (omega arith) h g)

  nowhere : n ≤ 64 → least ≡ 64 → NoRoute good n i
  nowhere m e cs =
      by_leg (λ os. ⊥) l (λ k ks f q r. let h = short r in ⊎_elim (λ w. omega arith) (λ w. omega arith) (rival k ks f q r))

  onward : i < to → good i to → {cs : List ℕ} → length cs ≡ least → Best good n to cs → Best good n i (to ∷ cs)
  onward h g {cs} e b =
      record {
        route = leg h g b.route;
        fewest = λ os. by_leg (λ os. suc (length cs) ≤ length os) l
            (λ k ks f q r. ⊎_elim (λ w. omega arith) (λ w. omega arith) (rival k ks f q r));
        furthest = λ os. by_leg (λ os. length os ≡ suc (length cs) → FurtherFirst (to ∷ cs) os) l
            (λ k ks f q r m. ⊎_elim (λ w. absurd (omega arith)) (λ w. ahead k ks r (omega arith) w.1) (rival k ks f q r));
      }
    where
      ahead : (k : ℕ) (ks : List ℕ) → Route good n k ks → length ks ≡ length cs → k ≤ to → FurtherFirst (to ∷ cs) (k ∷ ks)
      ahead k ks r m w = ⊎_elim (λ e. rw e (later (b.furthest ks (rw e at r) m))) (λ lt. more lt) (eq-or-lt_of_le w)

  pub scanned : n ≤ 64 → FirstCut good n i to (least + 1)
  scanned m = ⊎_elim (λ e. inr (omega arith, nowhere m e)) (λ f. inl (first (f.0, omega arith, f.2, f.3) (tells to (omega arith) (omega arith)))) s.found
    where
      first : (i < to) × (to ≤ n) × good i to × (least ≡ get_or best to 0) → Fewest good n to (get_or best to 0) →
          (cs : List ℕ) × Best good n i (to ∷ cs) × (suc (length cs) ≡ least + 1)
      first f (inl (cs, b, c)) = (cs, onward f.0 f.2 (omega arith) b, omega arith)
      first f (inr (e, none)) = absurd (omega (arith, s.bound))
