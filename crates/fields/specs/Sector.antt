-- A direction as the code has it: a complex number, by the sizes of its parts.
use Rattle.std.specs.Prelude.{ℕ, ◌*◌, ◌≡◌, cond, ltb, eqb}
use Rattle.std.specs.Int.{abs_diff}
use Rattle.fields.specs.declared.sector.Parts.{Parts}

-- The sizes of the parts of a square.
pub record Squared (real imaginary : ℕ) (r : Parts) : Type 0 where
  pub real_part : r.real ≡ abs_diff (real * real) (imaginary * imaginary)
  pub imaginary_part : r.imaginary ≡ 2 * (real * imaginary)

-- In which half of its quadrant a direction is, 0 or 1, where that is an odd one, and where it is not.
unfoldable pub later_half : ℕ → ℕ → ℕ → ℕ
later_half odd real imaginary = cond (eqb odd 1) (cond (ltb real imaginary) 0 1) (cond (ltb imaginary real) 0 1)
