-- The first and the last line of some lines, and the nodes there; their lowest class line by line.
use Prim.Native.Nat.{ℕ, zero, suc, ◌+◌, ◌-◌, ◌<◌, max}
use mathlib.Core.Path.{◌≡◌, refl, ap}
use mathlib.Core.List.{List, [], ◌∷◌, ◌++◌}
use native.Mathlib.Omega.{arith}
use lib.ListN.{length, get_or, take}
use Rattle.model.specs.Map.{Line, Map}
use Rattle.model.specs.Lines.{line_at, lowest, first_of, last_of}
use Rattle.model.specs.WellFormed.{LineOk}
use Rattle.work_area.specs.Area.{line_numbers}
use Rattle.model.specs.Choice.{from_node, to_node}
use Rattle.stretches.proofs.Stretches.{take_next}

pub first_is : (ls : List ℕ) → get_or ls 0 0 ≡ first_of ls
unfolding first_of
first_is [] = refl
first_is (l ∷ ls) = refl

pub last_is : (ls : List ℕ) → get_or ls (length ls - 1) 0 ≡ last_of ls
unfolding last_of
last_is [] = refl
last_is (l ∷ []) = refl
last_is (l ∷ k ∷ ls) =
    let e : length (l ∷ k ∷ ls) - 1 ≡ suc (length (k ∷ ls) - 1) = omega arith in
    rw e (last_is (k ∷ ls))

pub from_is : (m : Map) (ls : List ℕ) → (line_at m (get_or ls 0 0)).start ≡ from_node m ls
unfolding from_node
from_is m ls = ap (λ (l : ℕ). (line_at m l).start) (first_is ls)

pub to_is : (m : Map) (ls : List ℕ) → (line_at m (get_or ls (length ls - 1) 0)).end ≡ to_node m ls
unfolding to_node
to_is m ls = ap (λ (l : ℕ). (line_at m l).end) (last_is ls)

pub lowest_append : (m : Map) (xs : List ℕ) (l : ℕ) → lowest m (xs ++ (l ∷ [])) ≡ max (lowest m xs) (line_at m l).frc
unfolding lowest
lowest_append m [] l = omega arith
lowest_append m (x ∷ xs) l = omega (arith, lowest_append m xs l)

module _ (m : Map) (ls : List ℕ) where
  pub lowest_none : 0 ≡ lowest m (take 0 ls)
  unfolding lowest
  lowest_none = refl

  pub lowest_on : (i : ℕ) → i < length ls → lowest m (take (i + 1) ls) ≡ max (lowest m (take i ls)) (line_at m (get_or ls i 0)).frc
  lowest_on i h = rw (take_next ls i h) (lowest_append m (take i ls) (get_or ls i 0))

-- The nodes of a line are the map's.
pub node_small : {n : ℕ} {l : Line} (k : ℕ) → k < 2 → LineOk n l → get_or (line_numbers l) k 0 < n
node_small zero h ok = ok.start
node_small (suc zero) h ok = ok.end
node_small (suc (suc k)) h ok = absurd (omega arith)
