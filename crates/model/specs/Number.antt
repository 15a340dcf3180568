-- Numbers in groups of seven bits, lowest group first (paper 01, "The depot map", first paragraph).
use Rattle.std.specs.Prelude.{ℕ, zero, suc, ◌+◌, ◌*◌, ◌-◌, ◌/◌, ◌%◌, ◌^◌, true, false, cond, ◌||◌, not, List, [], ◌∷◌, ltb, eqb}

-- What stands at the front of some bytes: a number and the bytes after it, or no number.
pub data Number : Type 0 where
  got : ℕ → List ℕ → Number
  faulty : Number

-- "The top bit of a byte says that another follows": at most `most` groups more, the next one at `weight`, on top of `value`.
-- "In its shortest form": a last group of 0 only as the whole number. "At most 4,294,967,295."
unfoldable pub groups : ℕ → ℕ → ℕ → List ℕ → Number
groups zero weight value bs = faulty
groups (suc most) weight value [] = faulty
groups (suc most) weight value (b ∷ bs) =
    elim (ltb b 128) [
      | true ↦
          cond (not (eqb b 0) || eqb weight 1) (cond (ltb (value + b * weight) (2 ^ 32)) (got (value + b * weight) bs) faulty) faulty
      | false ↦ groups most (weight * 128) (value + (b - 128) * weight) bs
    ]

-- The number at the front of the bytes. No number has over five groups: the fifth is at 2^28.
unfoldable pub number : List ℕ → Number
number bs = groups 5 1 0 bs

-- The writing direction: the bytes of a number, in at most `most` groups.
unfoldable pub group_bytes : ℕ → ℕ → List ℕ
group_bytes zero x = []
group_bytes (suc most) x =
    elim (ltb x 128) [
      | true ↦ x ∷ []
      | false ↦ (x % 128 + 128) ∷ group_bytes most (x / 128)
    ]

unfoldable pub number_bytes : ℕ → List ℕ
number_bytes x = group_bytes 5 x
