-- A row of the table: its numbers, one after another.
use Prim.Native.Nat.{ℕ, ◌+◌, ◌*◌, ◌≤◌, ◌<◌}
use mathlib.Core.Path.{◌≡◌, sym, ◌∙◌, subst}
use mathlib.Core.List.{List}
use native.Mathlib.Decide.{dec_lt}
use native.Mathlib.Omega.{arith}
use lib.ListN.{length, set}
use lib.Seq.{get_or-set_same, get_or-set_other}
use Rattle.model.specs.Map.{Map}
use Rattle.buffers.specs.Kept.{Kept}
use Rattle.buffers.proofs.Kept.{kept_none, kept_then, kept_set}
use Rattle.work_area.specs.Mirror.{mirror}
use Rattle.sole_ways.specs.SoleWays.{mark, Marks, SoleLeg, Worked, RowCleared, RowTested}
use Rattle.sole_ways.proofs.Marks.{marks_yes, marks_no}

-- The numbers up to position `j` answer, and those behind it are 0.
pub record RowUpTo (m : Map) (s : List ℕ) (i end : ℕ) (a b : List ℕ) (j : ℕ) : Type 0 where
  pub says : (k : ℕ) → i < k → k ≤ j → Marks (SoleLeg m s i k) (mark b i k)
  pub rest : (k : ℕ) → j < k → k ≤ end → mark b i k ≡ 0
  pub kept : Kept (65 * i + i + 1) (65 * i + end + 1) a b

pub row_start : (m : Map) (s : List ℕ) (i end : ℕ) {a b : List ℕ} → RowCleared i end a b → RowUpTo m s i end b b i
row_start m s i end c = record { says = λ k h l. absurd (omega arith); rest = λ k h l. c.cleared k h l; kept = kept_none }

module _ {m : Map} {s : List ℕ} {i end : ℕ} {a b : List ℕ} {j : ℕ} (before : i ≤ j) (inside : j < end) (r : RowUpTo m s i end a b j) where
  -- The next leg is sole.
  pub row_yes : 65 * i + (j + 1) < length b → SoleLeg m s i (j + 1) → RowUpTo m s i end a (set b (65 * i + (j + 1)) 1) (j + 1)
  row_yes room sole =
      record {
        says = λ k after upto. says k after upto (dec_lt k (j + 1));
        rest = λ k after upto. get_or-set_other b (65 * i + (j + 1)) (65 * i + k) 1 0 (λ e. omega arith) ∙ r.rest k (omega arith) upto;
        kept = kept_then r.kept (kept_set (65 * i + (j + 1)) 1 (omega arith) (omega arith));
      }
    where
      says : (k : ℕ) → i < k → k ≤ j + 1 → Dec (k < j + 1) → Marks (SoleLeg m s i k) (mark (set b (65 * i + (j + 1)) 1) i k)
      says k after upto (yes earlier) =
          subst (Marks (SoleLeg m s i k)) (sym (get_or-set_other b (65 * i + (j + 1)) (65 * i + k) 1 0 (λ e. omega arith))) (r.says k after (omega arith))
      says k after upto (no last) =
          let e : k ≡ j + 1 = omega arith in
          let one = get_or-set_same b (65 * i + (j + 1)) 1 0 room in
          subst (λ (q : ℕ). Marks (SoleLeg m s i q) (mark (set b (65 * i + (j + 1)) 1) i q)) (sym e)
          (subst (Marks (SoleLeg m s i (j + 1))) (sym one) (marks_yes sole))

  -- It is not.
  pub row_no : (SoleLeg m s i (j + 1) → ⊥) → RowUpTo m s i end a b (j + 1)
  row_no never = record { says = λ k after upto. says k after upto (dec_lt k (j + 1)); rest = λ k after upto. r.rest k (omega arith) upto; kept = r.kept }
    where
      says : (k : ℕ) → i < k → k ≤ j + 1 → Dec (k < j + 1) → Marks (SoleLeg m s i k) (mark b i k)
      says k after upto (yes earlier) = r.says k after (omega arith)
      says k after upto (no last) =
          let e : k ≡ j + 1 = omega arith in
          subst (λ (q : ℕ). Marks (SoleLeg m s i q) (mark b i q)) (sym e)
          (subst (Marks (SoleLeg m s i (j + 1))) (sym (r.rest (j + 1) (omega arith) (omega arith))) (marks_no never))

-- The row ends: no later leg is sole.
pub row_stop : {m : Map} {lines : ℕ} {s : List ℕ} {i end : ℕ} {a b w v : List ℕ} {j : ℕ} → RowUpTo (mirror m) s i end a b j → Worked m lines w v →
    ((k : ℕ) → j < k → k ≤ end → SoleLeg (mirror m) s i k → ⊥) → RowTested m lines s i end a b w v
row_stop {m} {s = s} {i = i} {end = end} {b = b} {j = j} r worked none =
    record { says = λ k after upto. says k after upto (dec_lt j k); kept = r.kept; worked = worked }
  where
    says : (k : ℕ) → i < k → k ≤ end → Dec (j < k) → Marks (SoleLeg (mirror m) s i k) (mark b i k)
    says k after upto (yes later) = subst (Marks (SoleLeg (mirror m) s i k)) (sym (r.rest k later upto)) (marks_no (none k later upto))
    says k after upto (no earlier) = r.says k after (omega (arith, earlier))
