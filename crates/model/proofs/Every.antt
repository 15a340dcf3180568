-- What holds of every element of a list.
use Prim.Native.Nat.{ℕ, zero, suc, ◌<◌}
use mathlib.Core.List.{List, [], ◌∷◌, ◌++◌}
use native.Mathlib.Omega.{arith}
use lib.ListN.{length, get_or}

pub data Every {A : Type 0} (P : A → Type 0) : List A → Type 0 where
  none : Every P []
  also : {a : A} {xs : List A} → P a → Every P xs → Every P (a ∷ xs)

pub every_append : {A : Type 0} {P : A → Type 0} {xs ys : List A} → Every P xs → Every P ys → Every P (xs ++ ys)
every_append none f = f
every_append (also p e) f = also p (every_append e f)

pub every_at : {A : Type 0} {P : A → Type 0} {xs : List A} (d : A) (i : ℕ) → Every P xs → i < length xs → P (get_or xs i d)
every_at d i none h = absurd (omega arith)
every_at d zero (also p e) h = p
every_at d (suc i) (also p e) h = every_at d i e (omega arith)

-- A byte, as a number.
abbrev pub Byte : ℕ → Type 0
Byte b = b < 256

-- Past the end of some bytes stands 0, which is a byte too.
pub byte_at : {bs : List ℕ} (i : ℕ) → Every Byte bs → Byte (get_or bs i 0)
byte_at i none = omega arith
byte_at zero (also p e) = p
byte_at (suc i) (also p e) = byte_at i e
