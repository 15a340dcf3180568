-- "A message now starts with two seven-bit numbers, the map's byte count and a sum" (paper 02, W10): the front of a message, and what the readers test of it.
use Rattle.std.specs.Prelude.{ℕ, ◌+◌, ◌*◌, ◌%◌, Bool, false, ◌&&◌, List, [], ◌∷◌, ◌++◌, length, eqb}
use Rattle.model.specs.Number.{got, faulty, number, number_bytes}

abbrev pub sum_factor : ℕ
sum_factor = 257

abbrev pub sum_modulus : ℕ
sum_modulus = 4_294_967_291

-- "For each byte multiply by 257, add the byte, keep the remainder by 4,294,967,291."
unfoldable pub summed : ℕ → List ℕ → ℕ
summed sum [] = sum
summed sum (b ∷ bs) = summed ((sum * sum_factor + b) % sum_modulus) bs

-- "Start at 0."
unfoldable pub map_sum : List ℕ → ℕ
map_sum mb = summed 0 mb

-- The front of a message for the map of these bytes.
unfoldable pub front_bytes : List ℕ → List ℕ
front_bytes mb = number_bytes (length mb) ++ number_bytes (map_sum mb)

-- What stands at the start of a message: a count, a sum and the bytes behind them; or it cannot be read.
pub data FrontRead : Type 0 where
  front : ℕ → ℕ → List ℕ → FrontRead
  unreadable : FrontRead

unfoldable pub front_of : List ℕ → FrontRead
front_of message =
    elim (number message) [
      | got count after ↦ elim (number after) [ got sum rest ↦ front count sum rest | faulty ↦ unreadable ]
      | faulty ↦ unreadable
    ]

-- "The readers, of points too, test both": not so where "count or sum differs or cannot be read", refusal 30.
unfoldable pub told : List ℕ → FrontRead → Bool
told mb (front count sum rest) = eqb count (length mb) && eqb sum (map_sum mb)
told mb unreadable = false

unfoldable pub same_map : List ℕ → List ℕ → Bool
same_map mb message = told mb (front_of message)
