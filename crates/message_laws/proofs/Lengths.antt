-- The length of a reference as bytes: none, one or two.
use Prim.Native.Nat.{ℕ, zero, suc, ◌+◌, ◌/◌, ◌%◌, ◌≤◌, ◌<◌}
use mathlib.Core.Path.{◌≡◌, refl, ap}
use mathlib.Core.List.{List, [], ◌∷◌}
use mathlib.Core.Logic.{⊎_elim}
use native.Mathlib.Omega.{arith}
use lib.ListN.{length}
use borrow.Author.Tests.{lt-ltb, le-ltb}
use Rattle.model.specs.Number.{group_bytes, number_bytes}
use Rattle.model.specs.Message.{length_bytes}
use Rattle.buffers.proofs.Cases.{le_or_lt}

one_group : (most x : ℕ) → x < 128 → group_bytes (suc most) x ≡ x ∷ []
unfolding group_bytes
one_group most x h = rw (group_bytes, lt-ltb x 128 h)

two_groups : (most x : ℕ) → 128 ≤ x → x < 16_384 → group_bytes (suc (suc most)) x ≡ (x % 128 + 128) ∷ x / 128 ∷ []
unfolding group_bytes
two_groups most x h k = rw (group_bytes, le-ltb x 128 h) (ap (λ (l : List ℕ). (x % 128 + 128) ∷ l) (one_group most (x / 128) (omega arith)))

pub no_length : length_bytes 0 ≡ []
unfolding length_bytes
no_length = refl

pub short_length : (n : ℕ) → 0 < n → n < 128 → length_bytes n ≡ n ∷ []
unfolding length_bytes number_bytes
short_length zero some h = absurd (omega arith)
short_length (suc n) some h = one_group 4 (suc n) h

pub long_length : (n : ℕ) → 128 ≤ n → n < 16_384 → length_bytes n ≡ (n % 128 + 128) ∷ n / 128 ∷ []
unfolding length_bytes number_bytes
long_length zero some h = absurd (omega arith)
long_length (suc n) some h = two_groups 3 (suc n) some h

pub one_byte : (n : ℕ) → 0 < n → n < 128 → length (length_bytes n) ≡ 1
one_byte n h k = ap length (short_length n h k)

pub two_bytes : (n : ℕ) → 128 ≤ n → n ≤ 459 → length (length_bytes n) ≡ 2
two_bytes n h k = ap length (long_length n h (omega arith))

-- A longer reference has no shorter length.
pub wider : (a b : ℕ) → a ≤ b → b ≤ 459 → length (length_bytes a) ≤ length (length_bytes b)
wider zero b h k = rw no_length (omega arith)
wider (suc n) b h k =
    ⊎_elim
    (λ l. rw (two_bytes b l k) (⊎_elim
    (λ m. omega (arith, two_bytes (suc n) m (omega arith)))
    (λ s. omega (arith, one_byte (suc n) (omega arith) s))
    (le_or_lt 128 (suc n))))
    (λ s. rw (one_byte (suc n) (omega arith) (omega arith), one_byte b (omega arith) s) (omega arith))
    (le_or_lt 128 b)
