-- Sole ways of the map turned round twice are those of the map; and the rows' numbers with the columns' are those of the legs tested good.
use Prim.Native.Nat.{ℕ, ◌-◌, ◌≤◌, ◌<◌}
use mathlib.Core.Path.{◌≡◌, ap, subst}
use mathlib.Core.Bool.{cond}
use mathlib.Core.List.{List}
use native.Mathlib.Omega.{arith}
use lib.ListN.{length, get_or}
use lib.Seq.{slice, length-slice}
use lib.Dec.{eqb}
use Rattle.model.specs.Map.{Line, Map}
use Rattle.model.specs.Lines.{lowest}
use Rattle.model.specs.Choice.{good}
use Rattle.model.specs.LegTests.{tested_good}
use Rattle.work_area.specs.Mirror.{mirror}
use Rattle.way_lengths.specs.declared.Terminus.{Terminus}
use Rattle.way_lengths.specs.Ways.{line, node}
use Rattle.turning.proofs.Straight.{Alike, mirrored_twice, alike_back, line_alike, total_alike, lowest_alike, way_alike}
use Rattle.point_choice.specs.Cuts.{Tested}
use Rattle.sole_ways.specs.SoleWays.{mark, Marks, SoleUnder, own_end, SoleLeg, Asked, RowsTested}
use Rattle.sole_ways.proofs.Marks.{marks_both, mark_sound, mark_complete}
use Rattle.leg_tests.specs.LegTests.{Sifted}

module _ {m n : Map} (a : Alike m n) where
  sole_under_alike : {c : ℕ} {ls : List ℕ} {to : Terminus} → SoleUnder m c ls to → SoleUnder n c ls to
  sole_under_alike {ls = ls} s =
      record {
        only = λ other way short. s.only other (way_alike (alike_back a) way) (omega (arith, total_alike a other, total_alike a ls, short));
      }

  own_end_alike : (s : List ℕ) (j : ℕ) → own_end m s j ≡ own_end n s j
  own_end_alike s j =
      ap (λ (x : Line). cond (eqb j (length s)) (line (get_or s (j - 1) 0)) (node x.end)) (line_alike a (get_or s (j - 1) 0))

  pub sole_leg_alike : {s : List ℕ} {i j : ℕ} → SoleLeg m s i j → SoleLeg n s i j
  sole_leg_alike {s} {i} {j} sole =
      record {
        within = omega (arith, sole.within, total_alike a (slice i j s));
        sole = subst (λ (c : ℕ). SoleUnder n c (slice i j s) (own_end n s j)) (lowest_alike a (slice i j s))
            (subst (SoleUnder n (lowest m (slice i j s)) (slice i j s)) (own_end_alike s j) (sole_under_alike sole.sole));
      }

-- A leg's number after the rows and after the columns.
pub tested_marks : {m : Map} (s : List ℕ) (made i j : ℕ) {x y : ℕ} → i < j → j ≤ length s → (Tested (good m) s i j → SoleLeg m s i j) →
    Marks (Asked s made i j × SoleLeg m s i j) x → Sifted (Tested (good m) s i j) x y → Marks (Tested (tested_good (good m) s made) s i j) y
tested_marks {m} s made i j {x} {y} h l sole row column =
    let size : length (slice i j s) ≡ j - i = length-slice i j s l in
    marks_both {P = Tested (tested_good (good m) s made) s i j} y
    (λ one. record {
      tested = rw size (mark_sound x row (column.still one)).0;
      good = column.holds one;
    })
    (λ t. column.stays (mark_complete x row (rw size at t.tested, sole t.good)) t.good)

-- What the rows say of the map turned round twice they say of the map.
pub rows_straight : (m : Map) {lines : ℕ} {s : List ℕ} (made : ℕ) {a b w v : List ℕ} → RowsTested (mirror m) lines s made a b w v → (i j : ℕ) → i < j → j ≤ length s →
    Marks (Asked s made i j × SoleLeg m s i j) (mark b i j)
rows_straight m {s = s} made {b = b} r i j h l =
    let x = mark b i j in
    let row = r.says i j h l in
    let twice = mirrored_twice m in
    marks_both {P = Asked s made i j × SoleLeg m s i j} x
    (λ one. let both = mark_sound x row one in (both.0, sole_leg_alike twice both.1))
    (λ both. mark_complete x row (both.0, sole_leg_alike (alike_back twice) both.1))
