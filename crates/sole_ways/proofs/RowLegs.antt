-- The legs of a row while one after another is tested.
use Prim.Native.Nat.{ℕ, ◌+◌, ◌*◌, ◌-◌, ◌≤◌, ◌<◌}
use mathlib.Core.Path.{◌≡◌, sym, ◌∙◌, subst}
use mathlib.Core.Bool.{true, false}
use mathlib.Core.List.{List}
use native.Mathlib.Omega.{arith}
use lib.ListN.{length, get_or, set}
use lib.Seq.{slice}
use Rattle.std.proofs.Common.{Option, None, Some}
use Rattle.model.specs.Map.{Map}
use Rattle.model.specs.Reading.{greatest_leg_length}
use Rattle.model.specs.Lines.{Connected, total, lowest}
use Rattle.buffers.specs.Kept.{Kept}
use Rattle.buffers.specs.Decides.{Decides}
use Rattle.buffers.proofs.Kept.{kept_then}
use Rattle.work_area.specs.Mirror.{mirror}
use Rattle.search_cells.specs.Area.{Set}
use Rattle.stretches.specs.Known.{Known}
use Rattle.way_lengths.specs.Ways.{line}
use Rattle.sole_ways.specs.declared.part.Part.{Part}
use Rattle.sole_ways.specs.declared.ahead.Along.{Along}
use Rattle.sole_ways.specs.declared.test.SoleTest.{SoleTest}
use Rattle.sole_ways.specs.declared.wall.Wall.{Wall}
use Rattle.sole_ways.specs.SoleWays.{mark, SoleLeg, SoleWay, own_end, none_from, Measures, OneMore, Worked, Follows, FollowsIf, EndsBy, Arriving, OnTrial, LegTested, WalledIf, Bars, RowBefore, RowCleared, RowTested}
use Rattle.sole_ways.proofs.Sole.{next_sole, none_further, none_longer}
use Rattle.sole_ways.proofs.Slices.{lowest_then}
use Rattle.sole_ways.proofs.Walls.{barred}
use Rattle.sole_ways.proofs.Working.{worked_none, worked_then}
use Rattle.sole_ways.proofs.Parts.{measures_none}
use Rattle.sole_ways.proofs.Rows.{RowUpTo, row_yes, row_no, row_stop}

-- The legs up to the end of a part are tested.
pub record InRow (m : Map) (lines : ℕ) (s : List ℕ) (i end : ℕ) (a b w v : List ℕ) (along : Option Along) (p : Part) : Type 0 where
  pub measured : Measures (mirror m) s p
  pub row : RowUpTo (mirror m) s i end a b p.to
  pub start : EndsBy along p.to
  pub follows : FollowsIf m lines s i v along
  pub worked : Worked m lines w v

pub in_row_start : {m : Map} {lines : ℕ} (s : List ℕ) {i end : ℕ} {a w : List ℕ} → i ≤ length s → RowUpTo (mirror m) s i end a a i → Set m lines w →
    InRow m lines s i end a a w w None (none_from i)
in_row_start {m} s {i = i} h row set =
    record { measured = measures_none (mirror m) s i h; row = row; start = tt; follows = tt; worked = worked_none set }

-- The numbers of the row before are still there.
pub before_kept : {m : Map} {s : List ℕ} (i end : ℕ) {a b : List ℕ} → length s ≤ 64 → Kept (65 * i + i + 1) (65 * i + end + 1) a b →
    RowBefore m s i a → RowBefore m s i b
before_kept i end few kept before some j h l e = before some j h l (sym (kept.below (65 * (i - 1) + j) (omega arith)) ∙ e)

module _ {m : Map} {lines : ℕ} {s : List ℕ} {i end : ℕ} {a b w v : List ℕ} {along : Option Along} {p r : Part} (joint : Connected (mirror m) s)
    (inside : end ≤ length s) (first : p.from ≡ i) (after : i ≤ p.to) (room : p.to < end) (one : OneMore p r)
    (k : InRow m lines s i end a b w v along p) (next : Measures (mirror m) s r) where
  from_is : r.from ≡ i
  from_is = one.from ∙ first

  to_is : r.to ≡ p.to + 1
  to_is = one.to

  -- A search that ends by the part does so by the longer one.
  start_on : (x : Option Along) → EndsBy x p.to → EndsBy x r.to
  start_on None h = tt
  start_on (Some x) h = omega (arith, to_is)

  pub start_next : EndsBy along r.to
  start_next = start_on along k.start

  pub follows_next : FollowsIf m lines s r.from v along
  follows_next = subst (λ (x : ℕ). FollowsIf m lines s x v along) (sym from_is) k.follows

  -- The next leg is one under test.
  pub on_trial : Known lines s → r.length ≤ greatest_leg_length → OnTrial m lines s r
  on_trial known short =
      record { known = known; connected = joint; measured = next; some = omega (arith, from_is, to_is, after); within = short }

  -- What its test tells.
  pub tested_next : {arrivals u : List ℕ} {t : SoleTest} → Known lines s → r.length ≤ greatest_leg_length → Arriving m lines s arrivals →
      (Set m lines v → OnTrial m lines s r → Arriving m lines s arrivals → EndsBy along r.to → FollowsIf m lines s r.from v along → LegTested m lines s r v u t) →
      LegTested m lines s r v u t
  tested_next known short arriving test = test k.worked.set (on_trial known short) arriving start_next follows_next

  -- It is known to be sole by the row before.
  pub in_row_known : 65 * i + r.to < length b → RowBefore (mirror m) s i b → (0 < i) × (mark b (i - 1) r.to ≡ 1) →
      InRow m lines s i end a (set b (65 * i + r.to) 1) w v along r
  in_row_known fits before (some, e) =
      let sole = before some r.to (omega (arith, to_is, after)) (omega (arith, to_is, room, inside)) e in
      let here = next_sole s joint i r.to some (omega (arith, to_is, after)) (omega (arith, to_is, room, inside)) sole in
      record {
        measured = next;
        row = subst (λ (x : ℕ). RowUpTo (mirror m) s i end a (set b (65 * i + x) 1) x) (sym to_is)
            (row_yes after room k.row (omega (arith, to_is, fits)) (subst (SoleLeg (mirror m) s i) to_is here));
        start = start_on along k.start;
        follows = k.follows;
        worked = k.worked;
      }

  sum : r.length ≡ total (mirror m) (slice i r.to s)
  sum = subst (λ (x : ℕ). r.length ≡ total (mirror m) (slice x r.to s)) from_is next.sum

  -- It is too long: so are the later ones.
  pub in_row_long : greatest_leg_length < r.length → RowTested m lines s i end a b w v
  in_row_long long =
      row_stop k.row k.worked
      (λ q h l. none_longer s joint i r.to q (omega (arith, to_is, after)) (omega (arith, to_is, h)) (omega (arith, l, inside)) (omega (arith, sum, long)))

  -- It has another way that is as short: so have the later ones.
  pub in_row_barred : (wall : Option Wall) → WalledIf (mirror m) s wall → Bars wall r → RowTested m lines s i end a b w v
  in_row_barred None walled h = absurd h
  in_row_barred (Some wall) walled (from, to, class) =
      let classes = subst (λ (x : ℕ). r.class ≡ lowest (mirror m) (slice x r.to s)) from_is next.classes in
      row_stop k.row k.worked
      (λ q h l. barred s joint walled i q (omega (arith, from, from_is)) (omega (arith, to, to_is, h)) (omega (arith, l, inside))
      (omega (arith, class, classes, lowest_then (mirror m) s i r.to q (omega (arith, to_is, after)) (omega (arith, to_is, h)) (omega (arith, l, inside)))))

  -- It is tested.
  module _ {u : List ℕ} {t : SoleTest} (short : r.length ≤ greatest_leg_length) (tested : LegTested m lines s r v u t) where
    says : Decides (SoleWay (mirror m) (slice i r.to s) (own_end (mirror m) s r.to)) t.sole
    says = subst (λ (x : ℕ). Decides (SoleWay (mirror m) (slice x r.to s) (own_end (mirror m) s r.to)) t.sole) from_is tested.says

    further : Follows m lines s i u t.along
    further = subst (λ (x : ℕ). Follows m lines s x u t.along) from_is tested.follows

    pub in_row_yes : 65 * i + r.to < length b → t.sole ≡ true → InRow m lines s i end a (set b (65 * i + r.to) 1) w u (Some t.along) r
    in_row_yes fits e =
        let sole : SoleLeg (mirror m) s i r.to =
        record {
          within = omega (arith, sum, short);
          sole = subst (Decides (SoleWay (mirror m) (slice i r.to s) (own_end (mirror m) s r.to))) e says;
        }
        in
        record {
          measured = next;
          row = subst (λ (x : ℕ). RowUpTo (mirror m) s i end a (set b (65 * i + x) 1) x) (sym to_is)
              (row_yes after room k.row (omega (arith, to_is, fits)) (subst (SoleLeg (mirror m) s i) to_is sole));
          start = tested.start;
          follows = further;
          worked = worked_then k.worked tested.worked;
        }

    never : t.sole ≡ false → SoleLeg (mirror m) s i r.to → ⊥
    never e sole = subst (Decides (SoleWay (mirror m) (slice i r.to s) (own_end (mirror m) s r.to))) e says sole.sole

    -- It is not sole, but its lines are the only way to the last of them: a later one may be.
    pub in_row_no : t.sole ≡ false → InRow m lines s i end a b w u (Some t.along) r
    in_row_no e =
        record {
          measured = next;
          row = subst (RowUpTo (mirror m) s i end a b) (sym to_is) (row_no after room k.row (subst (λ (x : ℕ). SoleLeg (mirror m) s i x → ⊥) to_is (never e)));
          start = tested.start;
          follows = further;
          worked = worked_then k.worked tested.worked;
        }

    -- The way breaks before.
    pub in_row_broken : t.sole ≡ false → t.along.to < r.to → RowTested m lines s i end a b w u
    in_row_broken e less =
        let broken = tested.broken e less in
        let broken-here : SoleWay (mirror m) (slice i r.to s) (line (get_or s (r.to - 1) 0)) → ⊥ =
        subst (λ (x : ℕ). SoleWay (mirror m) (slice x r.to s) (line (get_or s (r.to - 1) 0)) → ⊥) from_is broken
        in
        row_stop k.row (worked_then k.worked tested.worked)
        (λ q h l. none_further s joint i r.to q (omega (arith, to_is, after)) (omega (arith, to_is, h)) (omega (arith, l, inside)) broken-here)

-- What is said after the row was cleared is said of the table as it was.
pub row_cleared_then : {m : Map} {lines : ℕ} {s : List ℕ} {i end : ℕ} {z a b w v : List ℕ} → RowCleared i end z a → RowTested m lines s i end a b w v →
    RowTested m lines s i end z b w v
row_cleared_then c t = record { says = t.says; kept = kept_then c.kept t.kept; worked = t.worked }

-- All legs of the row are tested.
pub in_row_end : {m : Map} {lines : ℕ} {s : List ℕ} {i end : ℕ} {a b w v : List ℕ} {along : Option Along} {p : Part} → end ≤ p.to →
    InRow m lines s i end a b w v along p → RowTested m lines s i end a b w v
in_row_end h k = row_stop k.row k.worked (λ q after upto. absurd (omega arith))
