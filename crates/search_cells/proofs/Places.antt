-- How the list of the reached lines is gone through, place by place.
use Prim.Native.Nat.{ℕ, ◌+◌, ◌≤◌, ◌<◌}
use mathlib.Core.Path.{◌≡◌, sym, ◌∙◌, subst}
use mathlib.Core.List.{List}
use mathlib.Core.Logic.{◌⊎◌, inl, inr, ⊎_elim}
use native.Mathlib.Nat.{eq-or-lt_of_le}
use native.Mathlib.Omega.{arith}
use Rattle.search_cells.specs.Area.{length_to, listed, far, Listing, Among}
use Rattle.buffers.proofs.Cases.{le_or_lt}

module _ {w : List ℕ} {n count i : ℕ} (s : Listing w n count) (i< : i < n) where
  pub place_le : listed w i ≤ n
  place_le = ⊎_elim (λ c. omega (arith, s.none i c i<)) (λ c. omega (arith, (s.some i c).1)) (le_or_lt count i)

  pub past : listed w i ≡ 0 → count ≤ i
  past e = ⊎_elim (λ c. c) (λ c. absurd (omega (arith, (s.some i c).0))) (le_or_lt count i)

  -- Line `l` is at place `i`.
  module _ (l : ℕ) (e : listed w i ≡ l + 1) where
    pub line_there : l < n
    line_there = omega (arith, place_le)

    inside : i < count
    inside = ⊎_elim (λ c. absurd (omega (arith, s.none i c i<))) (λ c. c) (le_or_lt count i)

    pub new_there : Among w n i l → ⊥
    new_there a =
        let b = a.below in omega (arith, s.once i a.place inside (let c = inside in omega arith) (e ∙ sym a.here))

pub none_among : {w : List ℕ} {n l : ℕ} → Among w n 0 l → ⊥
none_among a = let b = a.below in omega arith

module _ {w : List ℕ} {n : ℕ} (i : ℕ) where
  pub among_here : {l : ℕ} → l < n → listed w i ≡ l + 1 → Among w n (i + 1) l
  among_here {l} l< e = record { line = l<; place = i; below = omega arith; here = e }

  pub among_more : (k : ℕ) → Among w n i k → Among w n (i + 1) k
  among_more k a = let b = a.below in record { line = a.line; place = a.place; below = omega arith; here = a.here }

  pub among_split : {l : ℕ} → listed w i ≡ l + 1 → (k : ℕ) → Among w n (i + 1) k → (k ≡ l) ⊎ Among w n i k
  among_split e k a =
      let b = a.below in
      ⊎_elim
      (λ z. inl (omega (arith, e, subst (λ (p : ℕ). listed w p ≡ k + 1) z a.here)))
      (λ z. inr (record { line = a.line; place = a.place; below = z; here = a.here }))
      (eq-or-lt_of_le {n = a.place} {m = i} (omega arith))

-- Every reached line is on the list.
pub among_all : {w : List ℕ} {n count i l : ℕ} → Listing w n count → count ≤ i → l < n → length_to w l < far → Among w n i l
among_all s c l< z = let a = s.every _ l< z in record { line = l<; place = a.0; below = omega (arith, a.1); here = a.2 }
