-- Rows of the table tested in order: how many legs they have, and what their numbers say of the legs whose turn has come.
use Prim.Native.Nat.{ℕ, zero, suc, ◌+◌, ◌*◌, ◌-◌, ◌≤◌, ◌<◌, min}
use mathlib.Core.Path.{◌≡◌, refl, sym, ◌∙◌, subst}
use mathlib.Core.List.{List}
use native.Mathlib.Decide.{dec_lt, ℕ_discrete}
use native.Mathlib.Omega.{arith}
use native.Mathlib.Numerals.{add-one}
use lib.ListN.{length}
use Rattle.model.specs.Map.{Map}
use Rattle.model.specs.LegTests.{legs_before, turn, leg_count, tests_made}
use Rattle.buffers.specs.Kept.{Kept}
use Rattle.buffers.proofs.Kept.{kept_none, kept_then, kept_within}
use Rattle.work_area.specs.Mirror.{mirror}
use Rattle.search_cells.specs.Area.{Set}
use Rattle.sole_ways.specs.SoleWays.{mark, Marks, SoleLeg, Worked, RowBefore, RowTested, Blank, Asked, RowsTested}
use Rattle.sole_ways.proofs.Marks.{marks_no, mark_sound, marks_both, mark_complete}
use Rattle.sole_ways.proofs.Working.{worked_none, worked_then}

-- ---- how many legs there are before a row

pub legs_none : (n : ℕ) → legs_before n 0 ≡ 0
unfolding legs_before
legs_none n = refl

pub legs_more : (n i : ℕ) → legs_before n (i + 1) ≡ legs_before n i + (n - i)
unfolding legs_before
legs_more n i = rw (add-one i)

legs_up : (n i d : ℕ) → legs_before n i ≤ legs_before n (i + d)
legs_up n i zero = let e : i + 0 ≡ i = omega arith in rw e (omega arith)
legs_up n i (suc d) = let e : i + suc d ≡ i + d + 1 = omega arith in rw e (omega (arith, legs_up n i d, legs_more n (i + d)))

pub legs_later : (n i k : ℕ) → i ≤ k → legs_before n i ≤ legs_before n k
legs_later n i k h = let e : i + (k - i) ≡ k = omega arith in rw e at (legs_up n i (k - i))

turn_is : (n i len : ℕ) → turn n i len ≡ legs_before n i + len
unfolding turn
turn_is n i len = refl

-- The tests made where none is left before row `i`, and at the end.
pub made_early : (n tests i : ℕ) → i ≤ n → tests - legs_before n i ≡ 0 → tests ≡ tests_made n tests
unfolding tests_made leg_count
made_early n tests i h none = omega (arith, none, legs_later n i n h)

pub made_all : (n tests left : ℕ) → left ≡ tests - legs_before n n → tests - left ≡ tests_made n tests
unfolding tests_made leg_count
made_all n tests left e = omega arith

-- A leg whose turn comes within the tests that may be made is among those made, and no other is.
asked_made : (n tests made i len : ℕ) → made ≡ tests_made n tests → 0 < len → i + len ≤ n → turn n i len ≤ tests → turn n i len ≤ made
unfolding tests_made leg_count
asked_made n tests made i len e some inside asked =
    omega (arith, asked, turn_is n i len, legs_more n i, legs_later n (i + 1) n (omega arith))

asked_tests : (n tests made i len : ℕ) → made ≡ tests_made n tests → turn n i len ≤ made → turn n i len ≤ tests
unfolding tests_made
asked_tests n tests made i len e asked = omega arith

-- The tests left after a row.
pub left_after : (n tests i end left : ℕ) → i < n → left ≡ tests - legs_before n i → end ≡ min n (i + left) → left - (end - i) ≡ tests - legs_before n (i + 1)
left_after n tests i end left h e f = omega (arith, legs_more n i)

-- ---- what the numbers say

-- The rows before row `i` are tested, as far as `tests` go; the others are blank.
pub record Ordered (m : Map) (lines : ℕ) (s : List ℕ) (tests : ℕ) (a b w v : List ℕ) (i : ℕ) : Type 0 where
  pub says : (k j : ℕ) → k < i → k < j → j ≤ length s → Marks (Asked s tests k j × SoleLeg (mirror m) s k j) (mark b k j)
  pub rest : (k j : ℕ) → i ≤ k → k < j → j ≤ length s → mark b k j ≡ 0
  pub kept : Kept 0 (65 * length s) a b
  pub worked : Worked m lines w v

module _ {m : Map} {lines : ℕ} {s : List ℕ} {tests : ℕ} {a w : List ℕ} where
  pub ordered_start : Blank a → Set m lines w → Ordered m lines s tests a a w w 0
  ordered_start blank set =
      record { says = λ k j h. absurd (omega arith); rest = λ k j h l u. blank (65 * k + j); kept = kept_none; worked = worked_none set }

  -- The row before is tested whole where tests are left.
  pub row_before : {b v : List ℕ} {i : ℕ} → legs_before (length s) i < tests → Ordered m lines s tests a b w v i → RowBefore (mirror m) s i b
  row_before {i = i} enough o some j h l e = (mark_sound _ (o.says (i - 1) j (omega arith) (omega arith) l) e).1

  -- One row more.
  pub ordered_on : {b c v u : List ℕ} {i end : ℕ} → length s ≤ 64 → i < length s → end ≡ min (length s) (i + (tests - legs_before (length s) i)) →
      legs_before (length s) i < tests → Ordered m lines s tests a b w v i → RowTested m lines s i end b c v u → Ordered m lines s tests a c w u (i + 1)
  ordered_on {b} {c} {i = i} {end = end} few inside e enough o r =
      record {
        says = λ k j before h l. says k j h l (ℕ_discrete k i) before;
        rest = λ k j after h l. r.kept.above (65 * k + j) (omega arith) ∙ o.rest k j (omega arith) h l;
        kept = kept_then o.kept (kept_within (omega arith) (omega arith) r.kept);
        worked = worked_then o.worked r.worked;
      }
    where
      here : (j : ℕ) → i < j → j ≤ length s → Dec (end < j) → Marks (Asked s tests i j × SoleLeg (mirror m) s i j) (mark c i j)
      here j h l (yes past) =
          let zero_is : mark c i j ≡ 0 = r.kept.above (65 * i + j) (omega arith) ∙ o.rest i j (omega arith) h l in
          subst (Marks (Asked s tests i j × SoleLeg (mirror m) s i j)) (sym zero_is)
          (marks_no (λ both. let asked = both.0 in omega (arith, turn_is (length s) i (j - i))))
      here j h l (no upto) =
          let x = mark c i j in
          let row = r.says j h (omega (arith, upto)) in
          marks_both {P = Asked s tests i j × SoleLeg (mirror m) s i j} x (λ one. (omega (arith, turn_is (length s) i (j - i), upto), mark_sound x row one))
          (λ both. mark_complete x row both.1)

      says : (k j : ℕ) → k < j → j ≤ length s → Dec (k ≡ i) → k < i + 1 → Marks (Asked s tests k j × SoleLeg (mirror m) s k j) (mark c k j)
      says k j h l (yes same) before =
          subst (λ (q : ℕ). Marks (Asked s tests q j × SoleLeg (mirror m) s q j) (mark c q j)) (sym same) (here j (omega arith) l (dec_lt end j))
      says k j h l (no differs) before =
          let kept : mark c k j ≡ mark b k j = r.kept.below (65 * k + j) (omega arith) in
          subst (Marks (Asked s tests k j × SoleLeg (mirror m) s k j)) (sym kept) (o.says k j (omega arith) h l)

  -- No tests are left, or no row is.
  pub ordered_end : {b v : List ℕ} {i made : ℕ} → made ≡ tests_made (length s) tests → (i < length s → tests ≤ legs_before (length s) i) → Ordered m lines s tests a b w v i →
      RowsTested m lines s made a b w v
  ordered_end {b} {i = i} {made = made} e done o = record { says = λ k j h l. says k j h l (dec_lt k i); kept = o.kept; worked = o.worked }
    where
      says : (k j : ℕ) → k < j → j ≤ length s → Dec (k < i) → Marks (Asked s made k j × SoleLeg (mirror m) s k j) (mark b k j)
      says k j h l (yes before) =
          let x = mark b k j in
          let row = o.says k j before h l in
          marks_both {P = Asked s made k j × SoleLeg (mirror m) s k j} x
          (λ one. let both = mark_sound x row one in (asked_made (length s) tests made k (j - k) e (omega arith) (omega arith) both.0, both.1))
          (λ both. mark_complete x row (asked_tests (length s) tests made k (j - k) e both.0, both.1))
      says k j h l (no after) =
          subst (Marks (Asked s made k j × SoleLeg (mirror m) s k j)) (sym (o.rest k j (omega (arith, after)) h l))
          (marks_no (λ both.
          let asked = asked_tests (length s) tests made k (j - k) e both.0 in
          omega (arith, turn_is (length s) k (j - k), legs_later (length s) i k (omega (arith, after)), done (omega (arith, after)))))
