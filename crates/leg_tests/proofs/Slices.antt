-- A part of a stretch's lines: its nodes; and the numbers of a column of the table.
use Prim.Native.Nat.{ℕ, zero, suc, ◌+◌, ◌*◌, ◌-◌, ◌≤◌, ◌<◌}
use mathlib.Core.Path.{◌≡◌, refl, sym, subst, ap}
use mathlib.Core.Logic.{◌≢◌}
use mathlib.Core.List.{List, [], ◌∷◌}
use native.Mathlib.Decide.{dec_lt}
use native.Mathlib.Omega.{arith}
use lib.ListN.{length, get_or, set, take, drop}
use lib.Seq.{slice, get_or-set_same, get_or-set_other}
use Rattle.model.specs.Map.{Map}
use Rattle.model.specs.Lines.{line_at}
use Rattle.model.specs.Choice.{from_node, to_node}
use Rattle.sole_ways.specs.SoleWays.{mark}
use Rattle.sole_ways.proofs.Slices.{first_of_slice, last_of_slice}

module _ (s : List ℕ) (i j : ℕ) (h : i < j) (l : j ≤ length s) where
  pub from_of_slice : (m : Map) → (line_at m (get_or s i 0)).start ≡ from_node m (slice i j s)
  unfolding from_node
  from_of_slice m = ap (λ (k : ℕ). (line_at m k).start) (sym (first_of_slice s i j h l))

  pub to_of_slice : (m : Map) → (line_at m (get_or s (j - 1) 0)).end ≡ to_node m (slice i j s)
  unfolding to_node
  to_of_slice m = ap (λ (k : ℕ). (line_at m k).end) (sym (last_of_slice s i j h l))

take_none : (n : ℕ) → ◌≡◌ {A = List ℕ} (take n []) []
take_none zero = refl
take_none (suc n) = refl

-- A part as the code takes it.
pub part_is : (i j : ℕ) (s : List ℕ) → take (j - i) (drop i s) ≡ slice i j s
part_is zero j s = let e : j - 0 ≡ j = omega arith in rw e
part_is (suc i) zero s = let e : 0 - suc i ≡ 0 = omega arith in rw e
part_is (suc i) (suc j) [] = take_none (suc j - suc i)
part_is (suc i) (suc j) (x ∷ s) = let e : suc j - suc i ≡ j - i = omega arith in rw e (part_is i j s)

-- A number of a column is stored: the other ones of the column, and those of other columns.
module _ (table : List ℕ) (i j x : ℕ) where
  pub same_column : (k : ℕ) → k ≢ i → mark (set table (65 * i + j) x) k j ≡ mark table k j
  same_column k differs = get_or-set_other table (65 * i + j) (65 * k + j) x 0 (λ e. differs (omega arith))

  pub other_column : j ≤ 64 → (k q : ℕ) → q ≤ 64 → q ≢ j → mark (set table (65 * i + j) x) k q ≡ mark table k q
  other_column h k q l differs = get_or-set_other table (65 * i + j) (65 * k + q) x 0 (λ e. differs (omega arith))

pub column_set : (P : ℕ → ℕ → Type 0) (table : List ℕ) (i j x : ℕ) → 0 < i → 65 * (i - 1) + j < length table →
    ((k : ℕ) → i ≤ k → k < j → P k (mark table k j)) → P (i - 1) x →
    (k : ℕ) → i - 1 ≤ k → k < j → P k (mark (set table (65 * (i - 1) + j) x) k j)
column_set P table i j x some room before here k h l = go (dec_lt (i - 1) k)
  where
    go : Dec (i - 1 < k) → P k (mark (set table (65 * (i - 1) + j) x) k j)
    go (yes after) = subst (P k) (sym (same_column table (i - 1) j x k (λ e. omega arith))) (before k (omega arith) l)
    go (no inside) =
        let e : k ≡ i - 1 = omega arith in
        subst (λ (q : ℕ). P q (mark (set table (65 * (i - 1) + j) x) q j)) (sym e)
        (subst (P (i - 1)) (sym (get_or-set_same table (65 * (i - 1) + j) x 0 room)) here)
