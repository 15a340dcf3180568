-- The text that the program makes and hands to the system.
use Rattle.std.specs.Prelude.{ℕ, List, take}
use Rattle.std.specs.Counts.{IsPrefixLen}
use Rattle.model.specs.Text.{Prints}
use Rattle.console.specs.Handed.{Handed}

-- 119 bytes, and 21 for each of 1,024 lines.
abbrev pub greatest_text : ℕ
greatest_text = 21_623

-- The first `n` bytes of a buffer are what is printed for the bytes of a map and of a reference.
pub record Made (mb ref buffer : List ℕ) (n : ℕ) : Type 0 where
  pub counts : IsPrefixLen n buffer
  pub prints : Prints mb ref (take n buffer)

-- The count of bytes that the system is known to have taken: all those of what is printed for a map and a reference, or none.
pub record Shown (mb ref : List ℕ) (taken : ℕ) : Type 0 where
  pub text : List ℕ
  pub prints : Prints mb ref text
  pub handed : Handed text taken
