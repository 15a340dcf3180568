-- By cases: of two numbers, of a test's answer, and of one place or any other.
use Prim.Native.Nat.{ℕ, ◌≤◌, ◌<◌}
use mathlib.Core.Path.{◌≡◌, refl, sym, subst}
use mathlib.Core.Bool.{Bool, true, false, cond}
use mathlib.Core.Logic.{◌⊎◌, inl, inr, ◌≢◌}
use native.Mathlib.Omega.{arith}
use native.Mathlib.Decide.{ℕ_discrete, dec_le}

pub le_or_lt : (a b : ℕ) → (a ≤ b) ⊎ (b < a)
le_or_lt a b = go (dec_le a b)
  where
    go : Dec (a ≤ b) → (a ≤ b) ⊎ (b < a)
    go (yes h) = inl h
    go (no h) = inr (omega arith)

-- A test says yes or no.
pub true_or : (b : Bool) → (b ≡ true) ⊎ (b ≡ false)
true_or true = inl refl
true_or false = inr refl

-- What holds of either of two numbers holds of the one that a test takes.
pub picked : (P : ℕ → Type 0) (t : Bool) (a b : ℕ) → (t ≡ true → P a) → (t ≡ false → P b) → P (cond t a b)
picked P true a b this that = this refl
picked P false a b this that = that refl

-- What holds of one number, and of every other.
pub here_or : (P : ℕ → Type 0) (j : ℕ) → P j → ((k : ℕ) → k ≢ j → P k) → (k : ℕ) → P k
here_or P j here other k = go (ℕ_discrete k j)
  where
    go : Dec (k ≡ j) → P k
    go (yes e) = subst P (sym e) here
    go (no d) = other k d
