-- A column of the table: what a store to one of its numbers keeps, and its legs while they are tested by a terminus, one leg after another.
use Prim.Native.Nat.{ℕ, ◌+◌, ◌*◌, ◌-◌, ◌≤◌, ◌<◌}
use mathlib.Core.Path.{◌≡◌, refl, sym, subst, ◌∙◌}
use mathlib.Core.Bool.{Bool}
use mathlib.Core.List.{List}
use native.Mathlib.Omega.{arith}
use lib.ListN.{length, get_or, set}
use Rattle.model.specs.Map.{Map}
use Rattle.buffers.proofs.Kept.{kept_none, kept_then, kept_set}
use Rattle.way_lengths.specs.declared.Terminus.{Terminus}
use Rattle.search_cells.specs.Area.{Set}
use Rattle.sole_ways.specs.SoleWays.{mark, Marks, Worked}
use Rattle.sole_ways.proofs.Working.{worked_none, worked_then}
use Rattle.std.proofs.Common.{Option, None}
use Rattle.leg_tests.specs.declared.cells.Cell.{Cell}
use Rattle.leg_tests.specs.declared.leg_search.Done.{Done}
use Rattle.leg_tests.specs.LegTests.{Alone, Noted, Asked, Sifted, DoneFor, CellTested, ColumnKept}
use Rattle.leg_tests.proofs.Slices.{same_column, other_column, column_set}

module _ {j : ℕ} {a : List ℕ} where
  pub column_none : ColumnKept j a a
  column_none = record { others = λ i k l d. refl; kept = kept_none }

  pub column_then : {b c : List ℕ} → ColumnKept j a b → ColumnKept j b c → ColumnKept j a c
  column_then p q = record { others = λ i k l d. q.others i k l d ∙ p.others i k l d; kept = kept_then p.kept q.kept }

  pub column_store : {b : List ℕ} (i x : ℕ) → i < j → j ≤ 64 → ColumnKept j a b → ColumnKept j a (set b (65 * i + j) x)
  column_store {b} i x h l k =
      column_then k
      (record { others = λ q r inside d. other_column b i j x l q r inside d; kept = kept_set (65 * i + j) x (omega arith) (omega arith) })

-- The notes of lines that are alone stand in no column.
pub noted_kept : (m : Map) (lines : ℕ) (s : List ℕ) {j : ℕ} {a b : List ℕ} → 0 < j → ColumnKept j a b → Noted m lines s a → Noted m lines s b
noted_kept m lines s {a = a} {b = b} some k noted i h =
    let e : 65 * i + 0 ≡ 65 * i = omega arith in
    let same : get_or b (65 * i) 0 ≡ get_or a (65 * i) 0 = rw e at (k.others i 0 (omega arith) (λ z. omega arith)) in
    subst (Marks (Alone m lines s i)) (sym same) (noted i h)

-- The legs from position `i` on are tested by a terminus.
pub record Sifting (m : Map) (lines : ℕ) (s : List ℕ) (j : ℕ) (to : Terminus) (own : Bool) (a b w v : List ℕ) (last : Option Done) (i : ℕ) : Type 0 where
  pub done : DoneFor m lines to last v
  pub sifted : (k : ℕ) → i ≤ k → k < j → Sifted (Asked m s k j to own) (mark a k j) (mark b k j)
  pub worked : Worked m lines w v

module _ {m : Map} {lines : ℕ} {s : List ℕ} {j : ℕ} {to : Terminus} {own : Bool} {w : List ℕ} where
  pub sifting_start : {a : List ℕ} → Set m lines w → Sifting m lines s j to own a a w w None j
  sifting_start set = record { done = tt; sifted = λ k h l. absurd (omega arith); worked = worked_none set }

  pub sifting_on : {a b v u : List ℕ} {last : Option Done} {i : ℕ} (r : Cell) → Sifting m lines s j to own a b w v last i → 0 < i →
      65 * (i - 1) + j < length b → mark b (i - 1) j ≡ mark a (i - 1) j → CellTested m lines s (i - 1) j to own (mark b (i - 1) j) v u r →
      Sifting m lines s j to own a (set b (65 * (i - 1) + j) r.mark) w u r.last (i - 1)
  sifting_on {a} {b} {i = i} r k some room e cell =
      record {
        done = cell.done;
        sifted = column_set (λ q y. Sifted (Asked m s q j to own) (mark a q j) y) b i j r.mark some room k.sifted
            (subst (λ (y : ℕ). Sifted (Asked m s (i - 1) j to own) y r.mark) e cell.sifted);
        worked = worked_then k.worked cell.worked;
      }

-- The numbers of the legs that come later are still what they were.
pub earlier_set : (a b : List ℕ) (i j x : ℕ) → 0 < i → ((k : ℕ) → k < i → mark b k j ≡ mark a k j) → (k : ℕ) → k < i - 1 →
    mark (set b (65 * (i - 1) + j) x) k j ≡ mark a k j
earlier_set a b i j x some earlier k h = same_column b (i - 1) j x k (λ e. omega arith) ∙ earlier k (omega arith)
