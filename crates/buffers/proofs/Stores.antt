-- Stores one after another: the bytes before, those stored, and the bytes after them.
use Prim.Native.Nat.{ℕ, suc, ◌+◌, ◌≤◌}
use mathlib.Core.Path.{◌≡◌, ◌∙◌}
use mathlib.Core.List.{List, [], ◌∷◌, ◌++◌, append_assoc}
use lib.ListN.{length, take, drop, set}
use lib.Seq.{sets, sets-eq}
use native.Mathlib.Omega.{arith}

module _ (l : List ℕ) (i : ℕ) where
  stored : (vs : List ℕ) → i + length vs ≤ length l → sets l i vs ≡ take i l ++ (vs ++ drop (i + length vs) l)
  stored vs h = sets-eq vs l i h ∙ append_assoc (take i l) vs (drop (i + length vs) l)

  pub two : (x y : ℕ) → i + 2 ≤ length l → set (set l i x) (i + 1) y ≡ take i l ++ (x ∷ y ∷ drop (i + 2) l)
  two x y h = let e : i + 1 ≡ suc i = omega arith in rw e (stored (x ∷ y ∷ []) h)

  pub three : (x y z : ℕ) → i + 3 ≤ length l → set (set (set l i x) (i + 1) y) (i + 2) z ≡ take i l ++ (x ∷ y ∷ z ∷ drop (i + 3) l)
  three x y z h =
      let e : i + 1 ≡ suc i = omega arith in
      let k : i + 2 ≡ suc (suc i) = omega arith in
      rw (e, k) (stored (x ∷ y ∷ z ∷ []) h)
