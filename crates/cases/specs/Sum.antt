-- A sum that tells numbers and their order.
use Rattle.std.specs.Prelude.{ℕ, zero, suc, ◌+◌, ◌*◌, ◌%◌, List, get_or}

-- The greatest prime below 2^32.
abbrev pub modulus : ℕ
modulus = 4_294_967_291

-- A step takes 257 times the sum so far and adds the number.
unfoldable pub added_to : ℕ → ℕ → ℕ
added_to sum x = (sum * 257 + x) % modulus

-- The sum over `count` numbers from number `at` on, on top of `sum`.
unfoldable pub sum_from : List ℕ → ℕ → ℕ → ℕ → ℕ
sum_from numbers at zero sum = sum
sum_from numbers at (suc count) sum = sum_from numbers (at + 1) count (added_to sum (get_or numbers at 0))
