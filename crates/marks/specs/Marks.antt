-- Marks in a buffer, by which a change of it is seen.
use Rattle.std.specs.Prelude.{ℕ, ◌+◌, ◌%◌, ◌≤◌, ◌<◌, ◌≡◌, List, length, get_or}
use Rattle.model.specs.Work.{work_length}

-- The mark of place `k` in a buffer of numbers.
abbrev pub mark_of : ℕ → ℕ
mark_of k = 3_000_000_000 + k % 1_000_000

-- The mark of place `k` in a buffer of bytes.
abbrev pub byte_mark_of : ℕ → ℕ
byte_mark_of k = k % 251

-- Every place from `from` up to `to` has its mark.
abbrev pub Marked : (ℕ → ℕ) → List ℕ → ℕ → ℕ → Type 0
Marked mark l from to = (k : ℕ) → k < to → from ≤ k → get_or l k 0 ≡ mark k

-- The numbers that a call uses are there and 0, and every place after them has its mark.
pub record Cleared (l : List ℕ) : Type 0 where
  pub long : work_length ≤ length l
  pub zeros : (k : ℕ) → k < work_length → get_or l k 0 ≡ 0
  pub rest : Marked mark_of l work_length (length l)
