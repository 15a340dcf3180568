-- What the program prints in worked cases, by computation: the two prints of paper 01 at the ridge, a refusal without a place, and numbers.
use Prim.Native.Nat.{ℕ}
use mathlib.Core.Path.{◌≡◌, refl}
use mathlib.Core.List.{List, [], ◌∷◌}
use native.Mathlib.Omega.{arith}
use Rattle.model.specs.Work.{work_length}
use Rattle.model.specs.Refusal.{row}
use Rattle.model.specs.Outcome.{ReadOutcome}
use Rattle.model.specs.Text.{decimal, text, printed_lines, Prints}
use Rattle.model.proofs.Cases.Computing.{computing}
use Rattle.model.proofs.Cases.Ridge.{map_bytes, three_from5000, two_points}
use Rattle.model.proofs.Cases.RidgeCalls.{three_from_5000, two_points_lem}

-- lines 2 pos 4981 5019 neg 0 0, then a row with 0 and a row with 1.
abbrev lines_at_the_ridge : List ℕ
lines_at_the_ridge =
    108 ∷ 105 ∷ 110 ∷ 101 ∷ 115 ∷ 32 ∷ 50
    ∷ 32 ∷ 112 ∷ 111 ∷ 115 ∷ 32 ∷ 52 ∷ 57 ∷ 56 ∷ 49 ∷ 32 ∷ 53 ∷ 48 ∷ 49 ∷ 57
    ∷ 32 ∷ 110 ∷ 101 ∷ 103 ∷ 32 ∷ 48 ∷ 32 ∷ 48 ∷ 10
    ∷ 48 ∷ 10
    ∷ 49 ∷ 10
    ∷ []

-- refused 18 0
abbrev tie_at_the_ridge : List ℕ
tie_at_the_ridge = 114 ∷ 101 ∷ 102 ∷ 117 ∷ 115 ∷ 101 ∷ 100 ∷ 32 ∷ 49 ∷ 56 ∷ 32 ∷ 48 ∷ 10 ∷ []

-- refused 2
abbrev map_refused : List ℕ
map_refused = 114 ∷ 101 ∷ 102 ∷ 117 ∷ 115 ∷ 101 ∷ 100 ∷ 32 ∷ 50 ∷ 10 ∷ []

pub record Texts : Type 0 where
  pub lines : Prints map_bytes three_from5000 lines_at_the_ridge
  pub tie : Prints map_bytes two_points tie_at_the_ridge
  pub map_refused_lem : text (ReadOutcome.refused (row 2)) ≡ map_refused
  pub number_0 : decimal 0 ≡ 48 ∷ []
  pub number_10 : decimal 10 ≡ 49 ∷ 48 ∷ []
  pub number_of_32_bits : decimal 4_294_967_295 ≡ 52 ∷ 50 ∷ 57 ∷ 52 ∷ 57 ∷ 54 ∷ 55 ∷ 50 ∷ 57 ∷ 53 ∷ []
  pub number_of_64_bits : decimal 18_446_744_073_709_551_615
      ≡ 49 ∷ 56 ∷ 52 ∷ 52 ∷ 54 ∷ 55 ∷ 52 ∷ 52 ∷ 48 ∷ 55 ∷ 51 ∷ 55 ∷ 48 ∷ 57 ∷ 53 ∷ 53 ∷ 49 ∷ 54 ∷ 49 ∷ 53 ∷ []

pub texts : Texts
unfolding computing
texts =
    record {
      lines = record { outcome = _; reads = three_from_5000 work_length printed_lines (omega arith) (omega arith); bytes_are = refl };
      tie = record { outcome = _; reads = two_points_lem work_length printed_lines (omega arith); bytes_are = refl };
      map_refused_lem = refl;
      number_0 = refl;
      number_10 = refl;
      number_of_32_bits = refl;
      number_of_64_bits = refl;
    }
