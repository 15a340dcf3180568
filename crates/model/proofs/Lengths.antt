-- "Lengths, offsets, spans and the leg limit follow: a line is 1 to 1,500,000, and D is the leg's length divided by 5,860, rounded down" (paper 02, W8): of all
-- maps, all lengths of a line and of a leg.
use Prim.Native.Nat.{ℕ, ◌+◌, ◌*◌, ◌≤◌, ◌<◌, ◌^◌}
use mathlib.Core.Path.{◌≡◌, ◌∙◌}
use mathlib.Core.List.{List, ◌++◌}
use native.Mathlib.Omega.{arith}
use lib.Dec.{eqb}
use lib.ListN.{length}
use borrow.Author.Tests.{ne_eqb}
use Rattle.model.specs.Refusal.{row}
use Rattle.model.specs.Number.{number_bytes}
use Rattle.model.specs.Field.{distance}
use Rattle.model.specs.Map.{Line, Map, MapAnswer, whole, refused, read_line, decode}
use Rattle.model.specs.Lines.{line_at, total}
use Rattle.model.specs.Reading.{Leg, Reading}
use Rattle.model.proofs.Numbers.{number_back}
use Rattle.model.proofs.Ranges.{field_in, field_low, field_high, passes}
use Rattle.model.proofs.Decoded.{well_formed}

-- "A line is 1 to 1,500,000": each line of a map that is taken.
pub line_lengths : (m : Map) (bytes : List ℕ) → decode bytes ≡ whole m → (l : ℕ) → l < length m.lines →
    (1 ≤ (line_at m l).length) × ((line_at m l).length ≤ 1_500_000)
line_lengths m bytes d l h = let ok = (well_formed m bytes d).line_ok l h in (ok.some, ok.long)

-- And any other length, behind two ends that are taken, is refused with 5, whatever comes next.
module _ (last start end : ℕ) (bs : List ℕ) (rest : Line → List ℕ → MapAnswer) (few : last < 2 ^ 32) (starts : start ≤ last) (ends : end ≤ last)
    (differ : start ≡ end → ⊥) where
  pub length_0_refused : read_line last (number_bytes start ++ (number_bytes end ++ (number_bytes 0 ++ bs))) rest ≡ refused (row 5)
  unfolding read_line
  length_0_refused =
      field_in _ _ _ _ _ start _ (number_back start _ (omega arith)) (omega arith) starts
      ∙ field_in _ _ _ _ _ end _ (number_back end _ (omega arith)) (omega arith) ends
      ∙ passes (eqb start end) 5 _ (ne_eqb start end differ)
      ∙ field_low _ _ _ _ _ 0 bs (number_back 0 bs (omega arith)) (omega arith)

  pub longer_refused : (long : ℕ) → 1_500_000 < long → long < 2 ^ 32 →
      read_line last (number_bytes start ++ (number_bytes end ++ (number_bytes long ++ bs))) rest ≡ refused (row 5)
  unfolding read_line
  longer_refused long over small =
      field_in _ _ _ _ _ start _ (number_back start _ (omega arith)) (omega arith) starts
      ∙ field_in _ _ _ _ _ end _ (number_back end _ (omega arith)) (omega arith) ends
      ∙ passes (eqb start end) 5 _ (ne_eqb start end differ)
      ∙ field_high _ _ _ _ _ long bs (number_back long bs small) (omega arith) over

-- "The leg limit": no reading of a leg is longer.
pub leg_limit : {m : Map} {leg : Leg} {ls : List ℕ} → Reading m leg ls → total m ls ≤ 1_500_000
leg_limit r = r.allowed.within

-- "D is the leg's length divided by 5,860, rounded down", and a byte within the leg limit.
pub distance_down : (long : ℕ) → (5_860 * distance long ≤ long) × (long < 5_860 * (distance long + 1))
unfolding distance
distance_down long = (omega arith, omega arith)

pub distance_byte : (long : ℕ) → long ≤ 1_500_000 → distance long < 256
unfolding distance
distance_byte long h = omega arith
