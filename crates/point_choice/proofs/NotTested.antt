-- The table while the legs that were not tested get the number 1, row by row.
use Prim.Native.Nat.{ℕ, ◌+◌, ◌*◌, ◌-◌, ◌≤◌, ◌<◌, min}
use mathlib.Core.Path.{◌≡◌, refl, sym, ◌∙◌, subst}
use mathlib.Core.List.{List}
use native.Mathlib.Decide.{dec_lt, ℕ_discrete}
use native.Mathlib.Numerals.{add-one}
use native.Mathlib.Omega.{arith}
use lib.ListN.{length, get_or, replicate, length-replicate, drop, length-take, length-drop}
use borrow.Rule.Slice.PartMut.{put_mid, mid_of}
use borrow.Author.Rules.{rules}
use Rattle.std.proofs.lemmas.List.{places}
use Rattle.std.proofs.Common.{Option}
use Rattle.model.specs.LegTests.{legs_before, turn}
use Rattle.buffers.specs.Kept.{Kept, Filled}
use Rattle.buffers.proofs.Kept.{kept_none, kept_then, kept_within}
use Rattle.point_choice.specs.Cuts.{GoodIn, FewestAnswers}
use Rattle.point_choice.specs.NotTested.{GoodOrNotTested, good, not_tested, RowHoped, Hoped}
use Rattle.point_choice.proofs.Routes.{fewest_same}

-- ---- the tests left before a row

pub left_none : (n tests : ℕ) → tests ≡ tests - legs_before n 0
unfolding legs_before
left_none n tests = omega arith

pub left_on : (n tests i end left : ℕ) → i < n → left ≡ tests - legs_before n i → end ≡ min n (i + left) → left - (end - i) ≡ tests - legs_before n (i + 1)
unfolding legs_before
left_on n tests i end left h e f = rw (add-one i) (omega arith)

-- The legs of a row up to its end are those whose turn has come.
module _ (n tests i end left j : ℕ) (inside : j ≤ n) (after : i < j) (e : left ≡ tests - legs_before n i) (f : end ≡ min n (i + left)) where
  past : tests < turn n i (j - i) → end < j
  unfolding turn
  past late = omega (arith, late)

  late_past : end < j → tests < turn n i (j - i)
  unfolding turn
  late_past h = omega (arith, h)

-- ---- a row

-- A part of a table that is filled.
pub part_filled : (a count e x : ℕ) (xs ys : List ℕ) → e ≡ a + count → e ≤ length xs → ys ≡ replicate (length (mid_of a (e - a) xs)) x →
    Filled a count x xs (put_mid a (e - a) xs ys)
part_filled a count e x xs ys is inside all =
    let n : length (mid_of a (e - a) xs) ≡ count = omega (arith, length-take (e - a) (drop a xs), length-drop a xs) in
    let all : ys ≡ replicate count x = rw n at all in
    let size : length ys ≡ count = rw all (length-replicate count x) in
    record {
      filled = λ l below. rw all (search (rules, places));
      kept = record { same = search (rules, places); below = λ k h. search (rules, places); above = λ k h. search (rules, places) };
    }

-- Its legs past position `end` get the number 1.
pub row_filled : (n i end : ℕ) {a b : List ℕ} → end ≤ n → Filled (65 * i + end + 1) (n - end) 1 a b → RowHoped n i end a b
row_filled n i end within f =
    record {
      ones = λ j after upto.
          let e : 65 * i + end + 1 + (j - (end + 1)) ≡ 65 * i + j = omega arith in
          rw e at (f.filled (j - (end + 1)) (omega arith));
      kept = kept_within (omega arith) (omega arith) f.kept;
    }

-- ---- the rows before row `i`

pub record RowsHoped (n tests : ℕ) (a b : List ℕ) (i : ℕ) : Type 0 where
  pub each : (k j : ℕ) → k < i → k < j → j ≤ n → GoodOrNotTested n tests a k j → GoodIn b k j
  pub only : (k j : ℕ) → k < i → k < j → j ≤ n → GoodIn b k j → GoodOrNotTested n tests a k j
  pub rest : (k j : ℕ) → i ≤ k → k < j → j ≤ n → get_or b (65 * k + j) 0 ≡ get_or a (65 * k + j) 0
  pub kept : Kept 0 (65 * n) a b

pub rows_none : {n tests : ℕ} {a : List ℕ} → RowsHoped n tests a a 0
rows_none =
    record {
      each = λ k j h. absurd (omega arith);
      only = λ k j h. absurd (omega arith);
      rest = λ k j h l u. refl;
      kept = kept_none;
    }

module _ {n tests i end left : ℕ} {a b c : List ℕ} (few : n ≤ 64) (inside : i < n) (e : left ≡ tests - legs_before n i) (f : end ≡ min n (i + left))
    (rows : RowsHoped n tests a b i) (row : RowHoped n i end b c) where
  -- In row `i`: what was tested has the number that it had.
  same_here : (j : ℕ) → i < j → j ≤ n → (end < j → ⊥) → get_or c (65 * i + j) 0 ≡ get_or a (65 * i + j) 0
  same_here j h l upto = row.kept.below (65 * i + j) (omega (arith, upto)) ∙ rows.rest i j (omega arith) h l

  each_here : (j : ℕ) → i < j → j ≤ n → Dec (end < j) → GoodOrNotTested n tests a i j → GoodIn c i j
  each_here j h l (yes late) g = row.ones j late l
  each_here j h l (no upto) (good one) = same_here j h l upto ∙ one
  each_here j h l (no upto) (not_tested late) = absurd (upto (past n tests i end left j l h e f late))

  only_here : (j : ℕ) → i < j → j ≤ n → Dec (end < j) → GoodIn c i j → GoodOrNotTested n tests a i j
  only_here j h l (yes late) one = not_tested (late_past n tests i end left j l h e f late)
  only_here j h l (no upto) one = good (sym (same_here j h l upto) ∙ one)

  -- Before it: as it was.
  same_before : (k j : ℕ) → k < i → j ≤ n → get_or c (65 * k + j) 0 ≡ get_or b (65 * k + j) 0
  same_before k j h l = row.kept.below (65 * k + j) (omega arith)

  each_on : (k j : ℕ) → k < i + 1 → k < j → j ≤ n → Dec (k ≡ i) → GoodOrNotTested n tests a k j → GoodIn c k j
  each_on k j before h l (yes same) =
      subst (λ (q : ℕ). GoodOrNotTested n tests a q j → GoodIn c q j) (sym same) (each_here j (omega arith) l (dec_lt end j))
  each_on k j before h l (no differs) = λ g. same_before k j (omega arith) l ∙ rows.each k j (omega arith) h l g

  only_on : (k j : ℕ) → k < i + 1 → k < j → j ≤ n → Dec (k ≡ i) → GoodIn c k j → GoodOrNotTested n tests a k j
  only_on k j before h l (yes same) =
      subst (λ (q : ℕ). GoodIn c q j → GoodOrNotTested n tests a q j) (sym same) (only_here j (omega arith) l (dec_lt end j))
  only_on k j before h l (no differs) = λ one. rows.only k j (omega arith) h l (sym (same_before k j (omega arith) l) ∙ one)

  -- One row more.
  pub rows_more : RowsHoped n tests a c (i + 1)
  rows_more =
      record {
        each = λ k j before h l. each_on k j before h l (ℕ_discrete k i);
        only = λ k j before h l. only_on k j before h l (ℕ_discrete k i);
        rest = λ k j after h l. row.kept.above (65 * k + j) (omega arith) ∙ rows.rest k j (omega arith) h l;
        kept = kept_then rows.kept (kept_within (omega arith) (omega arith) row.kept);
      }

pub rows_all : {n tests i : ℕ} {a b : List ℕ} → n ≤ i → RowsHoped n tests a b i → Hoped n tests a b
rows_all all rows =
    record {
      each = λ k j h l. rows.each k j (omega arith) h l;
      only = λ k j h l. rows.only k j (omega arith) h l;
      kept = rows.kept;
    }

-- The fewest legs over the table then.
pub hoped_fewest : {n tests : ℕ} {a b : List ℕ} (legs : Option ℕ) → Hoped n tests a b → FewestAnswers (GoodIn b) n legs →
    FewestAnswers (GoodOrNotTested n tests a) n legs
hoped_fewest legs h f = fewest_same h.only h.each legs f
