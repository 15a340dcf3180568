-- The legs to the last position while one last line after another is tested; and the columns, one after another.
use Prim.Native.Nat.{ℕ, ◌+◌, ◌*◌, ◌-◌, ◌≤◌, ◌<◌}
use mathlib.Core.Path.{◌≡◌, refl, sym, subst, ◌∙◌, ap}
use mathlib.Core.Bool.{true, false}
use mathlib.Core.List.{List}
use native.Mathlib.Decide.{dec_lt}
use native.Mathlib.Omega.{arith}
use lib.ListN.{length, get_or}
use Rattle.model.specs.Map.{Line, Map}
use Rattle.model.specs.Lines.{line_at, Connected}
use Rattle.model.specs.Choice.{good}
use Rattle.buffers.specs.Kept.{Kept}
use Rattle.buffers.proofs.Kept.{kept_none, kept_then, kept_within}
use Rattle.work_area.specs.Mirror.{mirror}
use Rattle.work_area.proofs.Mirrored.{line_mirrored}
use Rattle.way_lengths.specs.Ways.{line, node}
use Rattle.search_cells.specs.Area.{Set, latest}
use Rattle.search_cells.proofs.Leaving.{OnList, list_start, list_next}
use Rattle.point_choice.specs.Cuts.{Tested}
use Rattle.sole_ways.specs.SoleWays.{mark, Worked}
use Rattle.sole_ways.proofs.Working.{worked_none, worked_then}
use Rattle.leg_tests.specs.LegTests.{Noted, NotesKept, Open, Owned, Sifted, SoleColumn, SoleLegs, ColumnKept, ColumnSifted, ColumnTested, LegsSifted}
use Rattle.leg_tests.proofs.Opening.{own_of, tested_node, open_start, open_on, open_end}
use Rattle.leg_tests.proofs.Sifting.{column_none, column_then, noted_kept}

-- Before the last position a leg has no other terminus.
pub owned_all : (m : Map) {lines : ℕ} (s : List ℕ) {j : ℕ} {a b w v : List ℕ} → j ≤ length s →
    ColumnSifted m lines s j (node (line_at m (get_or s (j - 1) 0)).end) true a b w v → ColumnTested m lines s j a b w v
owned_all m s {j} {b = b} inside o = record { tested = λ i h. tested_node m s h inside (o.sifted i h); kept = o.kept; worked = o.worked }

-- The last lines from `at` on are tested, and the legs' own; `at - 1` is the next that ends at the node of the last position.
pub record Testing (m : Map) (lines : ℕ) (s : List ℕ) (a b w v : List ℕ) (at : ℕ) : Type 0 where
  pub list : OnList (mirror m) lines (line_at m (get_or s (length s - 1) 0)).end at
  pub numbers : (i : ℕ) → i < length s → Open m s i (length s) at (mark a i (length s)) (mark b i (length s))
  pub owned : Owned m s b
  pub kept : ColumnKept (length s) a b
  pub worked : Worked m lines w v

module _ {m : Map} {lines : ℕ} {s w : List ℕ} (c : Connected m s) where
  pub testing_start : {a b v : List ℕ} (at : ℕ) → at ≡ latest (mirror m) (line_at m (get_or s (length s - 1) 0)).end lines →
      ColumnSifted m lines s (length s) (line (get_or s (length s - 1) 0)) true a b w v → Testing m lines s a b w v at
  testing_start at e own =
      let all = own.worked.set.held.line_count in
      record {
        list = list_start (mirror m) lines _ e;
        numbers = λ i h. open_start s c h (omega arith) (line (get_or s (length s - 1) 0)) (rw all e) (own.sifted i h);
        owned = λ i h one. (own.sifted i h).holds one;
        kept = own.kept;
        worked = own.worked;
      }

  pub testing_on : {a b b' v u : List ℕ} {at next : ℕ} → Testing m lines s a b w v at → 0 < at →
      next ≡ latest (mirror m) (line_at (mirror m) (at - 1)).start (at - 1) → ColumnSifted m lines s (length s) (line (at - 1)) false b b' v u →
      Testing m lines s a b' w u next
  testing_on {at = at} {next = next} k some e column =
      let there = k.list.joined some in
      record {
        list = list_next k.list some e;
        numbers = λ i h. open_on s c h (omega arith) some there e (k.numbers i h) (column.sifted i h);
        owned = λ i h one. k.owned i h ((column.sifted i h).still one);
        kept = column_then k.kept column.kept;
        worked = worked_then k.worked column.worked;
      }

  pub testing_end : {a b v : List ℕ} {at : ℕ} → at ≡ 0 → Testing m lines s a b w v at → ColumnTested m lines s (length s) a b w v
  testing_end e k = record { tested = λ i h. open_end s c h (omega arith) e (k.numbers i h); kept = k.kept; worked = k.worked }

  -- What is 1 was 1, and so a sole way.
  pub testing_sole : {a b v : List ℕ} {at : ℕ} → SoleColumn m s (length s) a → Testing m lines s a b w v at → SoleColumn m s (length s) b
  testing_sole sole k i h one = sole i h ((k.numbers i h).still one)

-- The tests of the other last lines begin where that of the own one ended.
module _ {m : Map} {lines : ℕ} {s : List ℕ} {a b w v : List ℕ} (own : ColumnSifted m lines s (length s) (line (get_or s (length s - 1) 0)) true a b w v) where
  pub column_again : ColumnSifted m lines s (length s) (line (get_or s (length s - 1) 0)) true b b v v
  column_again =
      record {
        sifted = λ i h. record { still = λ one. one; holds = (own.sifted i h).holds; stays = λ one o. one };
        kept = column_none;
        worked = worked_none own.worked.set;
      }

  pub column_after : {c u : List ℕ} → ColumnTested m lines s (length s) b c v u → ColumnTested m lines s (length s) a c w u
  column_after t =
      record {
        tested = λ i h.
            let x = own.sifted i h in
            let y = t.tested i h in
            record {
              still = λ one. x.still (y.still one);
              holds = y.holds;
              stays = λ one g. y.stays (x.stays one (own_of m s i (length s) g)) g;
            };
        kept = column_then own.kept t.kept;
        worked = worked_then own.worked t.worked;
      }

-- The next of these lines ends there.
pub ends_there : (m : Map) (l : ℕ) {v : ℕ} → (line_at (mirror m) l).start ≡ v → (line_at m l).end ≡ v
ends_there m l e = sym (ap (λ (x : Line). x.start) (line_mirrored m l)) ∙ e

-- ---- the columns

-- The columns before position `j` are tested, and the others are as they were.
pub record Columns (m : Map) (lines : ℕ) (s : List ℕ) (a b w v : List ℕ) (j : ℕ) : Type 0 where
  pub tested : (i k : ℕ) → i < k → k < j → Sifted (Tested (good m) s i k) (mark a i k) (mark b i k)
  pub rest : (i k : ℕ) → i < k → j ≤ k → k ≤ length s → mark b i k ≡ mark a i k
  pub noted : Noted m lines s b
  pub kept : Kept 0 (65 * length s) a b
  pub worked : Worked m lines w v

module _ {m : Map} {lines : ℕ} {s : List ℕ} {a w : List ℕ} where
  pub columns_start : Noted m lines s a → Set m lines w → Columns m lines s a a w w 1
  columns_start noted set =
      record {
        tested = λ i k h l. absurd (omega arith);
        rest = λ i k h l u. refl;
        noted = noted;
        kept = kept_none;
        worked = worked_none set;
      }

  -- The next column has sole ways only.
  pub columns_sole : {b v : List ℕ} {j : ℕ} → j ≤ length s → SoleLegs m s a → Columns m lines s a b w v j → SoleColumn m s j b
  columns_sole {j = j} room sole k i h one = sole i j h room (sym (k.rest i j h (omega arith) room) ∙ one)

  pub columns_on : {b c v u : List ℕ} {j : ℕ} → length s ≤ 64 → 0 < j → j ≤ length s → Columns m lines s a b w v j → ColumnTested m lines s j b c v u →
      Columns m lines s a c w u (j + 1)
  columns_on {b} {c} {j = j} few some room k column =
      record {
        tested = λ i q h l. tested i q h l (dec_lt q j);
        rest = λ i q h l u. column.kept.others i q (omega arith) (λ e. omega arith) ∙ k.rest i q h (omega arith) u;
        noted = noted_kept m lines s (omega arith) column.kept k.noted;
        kept = kept_then k.kept (kept_within (omega arith) (omega arith) column.kept.kept);
        worked = worked_then k.worked column.worked;
      }
    where
      tested : (i q : ℕ) → i < q → q < j + 1 → Dec (q < j) → Sifted (Tested (good m) s i q) (mark a i q) (mark c i q)
      tested i q h l (yes earlier) =
          subst (Sifted (Tested (good m) s i q) (mark a i q)) (sym (column.kept.others i q (omega arith) (λ e. omega arith))) (k.tested i q h (omega arith))
      tested i q h l (no here) =
          let e : q ≡ j = omega arith in
          subst (λ (x : ℕ). Sifted (Tested (good m) s i x) (mark a i x) (mark c i x)) (sym e)
          (subst (λ (y : ℕ). Sifted (Tested (good m) s i j) y (mark c i j)) (k.rest i j (omega arith) (omega arith) (omega arith))
          (column.tested i (omega arith)))

  pub columns_end : {b v : List ℕ} {j : ℕ} → length s < j → Columns m lines s a b w v j → LegsSifted m lines s a b w v
  columns_end h k = record { tested = λ i q before l. k.tested i q before (omega arith); kept = k.kept; worked = k.worked }

-- What was said after the notes is said of the table before them.
pub sifted_noted : {m : Map} {lines : ℕ} {s : List ℕ} {z a b w v u : List ℕ} → length s ≤ 64 → Worked m lines w v → NotesKept (length s) z a → LegsSifted m lines s a b v u →
    LegsSifted m lines s z b w u
sifted_noted {m} {s = s} {b = b} few first notes k =
    record {
      tested = λ i j h l.
          subst (λ (x : ℕ). Sifted (Tested (good m) s i j) x (mark b i j)) (notes.legs i j (omega arith) (omega arith)) (k.tested i j h l);
      kept = kept_then notes.kept k.kept;
      worked = worked_then first k.worked;
    }
