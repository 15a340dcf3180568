-- Bytes put over a part of a buffer.
use Rattle.std.specs.Prelude.{ℕ, ◌+◌, List, ◌++◌, length, take, drop}

-- Bytes put over those from `at` on.
unfoldable pub put_at : ℕ → List ℕ → List ℕ → List ℕ
put_at at bs buffer = take at buffer ++ (bs ++ drop (at + length bs) buffer)
