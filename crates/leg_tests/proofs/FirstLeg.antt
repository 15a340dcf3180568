-- Where the first leg is the only one to test: it is a sole way, as every leg of one line is, since a way that goes on from that line is longer.
use Prim.Native.Nat.{ℕ, ◌+◌, ◌*◌, ◌-◌, ◌≤◌, ◌<◌}
use mathlib.Core.Path.{◌≡◌, sym, ◌∙◌, ap, subst}
use mathlib.Core.Logic.{◌⊎◌, inl, inr}
use mathlib.Core.List.{List, [], ◌∷◌}
use native.Mathlib.Decide.{ℕ_discrete}
use native.Mathlib.Omega.{arith}
use lib.ListN.{length, get_or, set}
use lib.Seq.{get_or-set_same, get_or-set_other}
use Rattle.model.specs.Map.{Map}
use Rattle.model.specs.Lines.{line_at, Connected, single, linked, total, first_of}
use Rattle.model.specs.LegTests.{legs_before, turn, leg_count, tests_made}
use Rattle.model.proofs.LegTests.{turn_by_start, turn_first, turn_last}
use Rattle.buffers.proofs.Kept.{kept_none, kept_set}
use Rattle.search_cells.specs.Area.{Set}
use Rattle.stretches.specs.Known.{Known}
use Rattle.sole_ways.specs.SoleWays.{mark, Marks, SoleLeg, Blank}
use Rattle.sole_ways.proofs.Marks.{marks_both, mark_sound, mark_complete}
use Rattle.sole_ways.proofs.Slices.{slice_one}
use Rattle.leg_tests.specs.LegTests.{FirstMarked, SoleTested}

module _ {m : Map} {lines : ℕ} {w : List ℕ} (set_so : Set m lines w) (s : List ℕ) (known : Known lines s) where
  -- A way from a line that is no longer than the line has no other.
  alone : (l : ℕ) {other : List ℕ} → Connected m other → first_of other ≡ l → total m other ≤ (line_at m l).length → other ≡ l ∷ []
  unfolding first_of total
  alone l (single h) e short = ap (λ (x : ℕ). x ∷ []) e
  alone l (linked {k = k} h f c) e short =
      absurd (omega (arith, short, ap (λ (x : ℕ). (line_at m x).length) e, (set_so.held.formed.line_ok k f.line).some))

  pub one_line : (i : ℕ) → i < length s → SoleLeg m s i (i + 1)
  unfolding first_of total
  one_line i h =
      let one = slice_one i s h in
      let sum = ap (total m) one in
      let ok = set_so.held.formed.line_ok (get_or s i 0) (omega (arith, known i h, set_so.held.line_count)) in
      record {
        within = omega (arith, sum, ok.long);
        sole = record {
          only = λ other way short. alone (get_or s i 0) way.connected (way.starts ∙ ap first_of one) (omega (arith, short, sum)) ∙ sym one;
        };
      }

  pub first_tested : {made : ℕ} {a b : List ℕ} → FirstMarked (length s) made a b → SoleTested m lines s made a b w w
  unfolding turn
  first_tested {b = b} f =
      record {
        says = λ i j h l.
            let x = mark b i j in
            let row = f.says i j h l in
            marks_both x
            (λ one.
            let asked = mark_sound x row one in
            let e : i + 1 ≡ j = omega (arith, asked, f.one) in
            (asked, subst (SoleLeg m s i) e (one_line i (omega arith))))
            (λ both. mark_complete x row both.0);
        kept = f.kept;
        set = set_so;
        area = kept_none;
      }

-- ---- the marks

-- No test, no mark.
pub none_marked : {n : ℕ} {a : List ℕ} → Blank a → FirstMarked n 0 a a
none_marked {n} {a} blank =
    record {
      one = omega arith;
      says = λ i j h l. marks_both (mark a i j) (λ one. absurd (omega (arith, one, blank (65 * i + j)))) (λ asked. absurd (omega (arith, asked, turn_first n i (j - i) (omega arith))));
      kept = kept_none;
    }

-- One test, and the first leg's mark.
pub first_marked : {n : ℕ} {a : List ℕ} → 0 < n → 65 * n ≤ length a → Blank a → FirstMarked n 1 a (set a 1 1)
unfolding turn legs_before
first_marked {n} {a} some room blank =
    record {
      one = omega arith;
      says = says;
      kept = kept_set 1 1 (omega arith) (omega arith);
    }
  where
    here : get_or (set a 1 1) 1 0 ≡ 1
    here = get_or-set_same a 1 1 0 (omega arith)

    says : (i j : ℕ) → i < j → j ≤ n → Marks (turn n i (j - i) ≤ 1) (mark (set a 1 1) i j)
    says i j h l = marks_both (mark (set a 1 1) i j) sound complete
      where
        sound : mark (set a 1 1) i j ≡ 1 → turn n i (j - i) ≤ 1
        sound one = go (ℕ_discrete (65 * i + j) 1)
          where
            go : Dec (65 * i + j ≡ 1) → turn n i (j - i) ≤ 1
            go (yes e) = let z : i ≡ 0 = omega arith in rw z (omega arith)
            go (no e) = absurd (omega (arith, one, get_or-set_other a 1 (65 * i + j) 1 0 e, blank (65 * i + j)))

        complete : turn n i (j - i) ≤ 1 → mark (set a 1 1) i j ≡ 1
        complete asked = go (ℕ_discrete i 0)
          where
            go : Dec (i ≡ 0) → mark (set a 1 1) i j ≡ 1
            go (yes z) = let e : 65 * i + j ≡ 1 = omega (arith, asked) in rw e here
            go (no q) = absurd (omega (arith, asked, turn_by_start n 0 i 1 (j - i) (omega arith) (omega arith) (omega arith)))

-- ---- the tests made

pub no_test : (n tests : ℕ) → tests ≡ 0 → 0 ≡ tests_made n tests
unfolding tests_made
no_test n tests e = omega arith

pub one_test : (n tests : ℕ) → 0 < n → 0 < tests → (n ≤ 1) ⊎ (tests ≤ 1) → 1 ≡ tests_made n tests
unfolding tests_made leg_count legs_before
one_test n tests some may (inl few) =
    let e : n ≡ 1 = omega arith in rw e (omega arith)
one_test n tests some may (inr few) =
    omega (arith, turn_first n 0 1 (omega arith), turn_last n 0 1 (omega arith) (omega arith))
