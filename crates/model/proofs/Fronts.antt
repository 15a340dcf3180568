-- The front of a message (W10): it reads back as what it was made of, the readers' test looks at nothing behind it, and on a map whose bytes differ in one it does
-- not pass.
use Prim.Native.Nat.{ℕ, zero, suc, ◌+◌, ◌/◌, ◌%◌, ◌≤◌, ◌<◌, ◌^◌}
use mathlib.Core.Path.{◌≡◌, refl, sym, ◌∙◌, ap}
use mathlib.Core.Bool.{Bool, true, false, ◌&&◌}
use mathlib.Core.List.{List, [], ◌∷◌, ◌++◌, append_assoc}
use native.Mathlib.Nat.{pow-succ'}
use native.Mathlib.Omega.{arith}
use lib.ListN.{length, length-append}
use lib.Dec.{ltb, eqb}
use borrow.Author.Tests.{eq-eqb, ne_eqb, ltb-false}
use Rattle.model.specs.Number.{got, number, group_bytes, number_bytes}
use Rattle.model.specs.Map.{Map, whole, decode}
use Rattle.model.specs.Front.{map_sum, front_bytes, front, front_of, told, same_map}
use Rattle.model.proofs.Numbers.{number_back}
use Rattle.model.proofs.Sums.{map_sum_low, sums_differ}
use Rattle.model.proofs.MapLengths.{map_few}

pub front_back : (mb rest : List ℕ) → length mb < 2 ^ 32 → front_of (front_bytes mb ++ rest) ≡ front (length mb) (map_sum mb) rest
unfolding front_of front_bytes
front_back mb rest h =
    let first : number (number_bytes (length mb) ++ number_bytes (map_sum mb) ++ rest) ≡ got (length mb) (number_bytes (map_sum mb) ++ rest) =
    rw append_assoc (number_back (length mb) (number_bytes (map_sum mb) ++ rest) h) in
    let second : number (number_bytes (map_sum mb) ++ rest) ≡ got (map_sum mb) rest =
    number_back (map_sum mb) rest (omega (arith, map_sum_low mb)) in
    rw (front_of, first, second)

-- ---- the readers' test

-- "Look only at its front": what stands behind it does not matter.
pub front_only : (mb mb' rest rest' : List ℕ) → length mb < 2 ^ 32 → same_map mb' (front_bytes mb ++ rest) ≡ same_map mb' (front_bytes mb ++ rest')
unfolding same_map told
front_only mb mb' rest rest' h = ap (told mb') (front_back mb rest h) ∙ sym (ap (told mb') (front_back mb rest' h))

-- On the map that the front is made of.
pub passes : (mb rest : List ℕ) → length mb < 2 ^ 32 → same_map mb (front_bytes mb ++ rest) ≡ true
unfolding same_map told
passes mb rest h = rw (same_map, front_back mb rest h, eq-eqb (length mb) (length mb) refl, eq-eqb (map_sum mb) (map_sum mb) refl)

-- "Maps of one length that differ in one byte are always told apart."
pub one_byte_apart : (before : List ℕ) (x y : ℕ) (behind rest : List ℕ) → x < 256 → y < 256 → (x ≡ y → ⊥) → length (before ++ x ∷ behind) < 2 ^ 32 →
    same_map (before ++ y ∷ behind) (front_bytes (before ++ x ∷ behind) ++ rest) ≡ false
unfolding same_map told
one_byte_apart before x y behind rest h k differ few =
    let apart : eqb (map_sum (before ++ x ∷ behind)) (map_sum (before ++ y ∷ behind)) ≡ false =
    ne_eqb (map_sum (before ++ x ∷ behind)) (map_sum (before ++ y ∷ behind)) (sums_differ before x y behind h k differ) in
    rw (same_map, front_back (before ++ x ∷ behind) rest few, apart) (and-false (eqb (length (before ++ x ∷ behind)) (length (before ++ y ∷ behind))))
  where
    and-false : (t : Bool) → (t && false) ≡ false
    and-false true = refl
    and-false false = refl

-- Maps of different lengths are told apart by the count.
pub other_length : (mb mb' rest : List ℕ) → (length mb ≡ length mb' → ⊥) → length mb < 2 ^ 32 → same_map mb' (front_bytes mb ++ rest) ≡ false
unfolding same_map told
other_length mb mb' rest differ few = rw (same_map, front_back mb rest few, ne_eqb (length mb) (length mb') differ)

-- ---- how long it is

groups_few : (most least x : ℕ) → x < 128 ^ suc least → length (group_bytes most x) ≤ suc least
unfolding group_bytes
groups_few zero least x h = omega arith
groups_few (suc most) zero x h = go (ltb x 128) refl
  where
    go : (t : Bool) → ltb x 128 ≡ t → length {A = ℕ} (elim t [ true ↦ x ∷ [] | false ↦ (x % 128 + 128) ∷ group_bytes most (x / 128) ]) ≤ 1
    go true t = omega arith
    go false t = absurd (let g = ltb-false x 128 t in omega arith)
groups_few (suc most) (suc least) x h = go (ltb x 128) (groups_few most least (x / 128) (omega (arith, pow-succ' 128 (suc least))))
  where
    go : (t : Bool) → length (group_bytes most (x / 128)) ≤ suc least →
        length {A = ℕ} (elim t [ true ↦ x ∷ [] | false ↦ (x % 128 + 128) ∷ group_bytes most (x / 128) ]) ≤ suc (suc least)
    go true later = omega arith
    go false later = omega arith

-- "They count towards the buffer's limit": three bytes for the count and five for the sum at most.
pub front_few : (mb : List ℕ) (m : Map) → decode mb ≡ whole m → length (front_bytes mb) ≤ 8
unfolding front_bytes number_bytes
front_few mb m e =
    let few = map_few mb m e in
    let count = groups_few 5 2 (length mb) (omega arith) in
    let sum = groups_few 5 4 (map_sum mb) (omega (arith, map_sum_low mb)) in
    omega (arith, length-append (group_bytes 5 (length mb)) (group_bytes 5 (map_sum mb)))
