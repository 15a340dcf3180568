-- A leg's number while one terminus after another is tested.
use Prim.Native.Nat.{ℕ, ◌-◌, ◌≤◌, ◌<◌}
use mathlib.Core.Path.{◌≡◌, sym, ◌∙◌, ap}
use mathlib.Core.Bool.{false}
use mathlib.Core.Logic.{⊎_elim}
use mathlib.Core.List.{List}
use native.Mathlib.Decide.{dec_lt}
use native.Mathlib.Omega.{arith}
use lib.ListN.{length, get_or}
use lib.Seq.{slice}
use Rattle.model.specs.Map.{Line, Map}
use Rattle.model.specs.Lines.{line_at, Connected, last_of, arriving}
use Rattle.model.specs.Choice.{good}
use Rattle.model.specs.Reading.{Reading}
use Rattle.model.proofs.Joining.{last_known}
use Rattle.work_area.specs.Mirror.{mirror}
use Rattle.work_area.proofs.Mirrored.{line_mirrored}
use Rattle.way_lengths.specs.declared.Terminus.{Terminus}
use Rattle.way_lengths.specs.Ways.{line, node}
use Rattle.search_cells.specs.Area.{latest}
use Rattle.search_cells.proofs.Leaving.{latest_all}
use Rattle.legs.proofs.Lines.{none_yet, no_other, not_arriving}
use Rattle.point_choice.specs.Cuts.{Tested}
use Rattle.sole_ways.proofs.Slices.{last_of_slice, slice_connected}
use Rattle.leg_tests.specs.LegTests.{leg_from, OwnRead, Sole, SoleFrom, Open, Sifted, Asked}
use Rattle.leg_tests.proofs.Termini.{leg_ends, arrives_so}

-- A leg that may be used passes the test of any terminus.
sole_of : (m : Map) (s : List ℕ) (i j : ℕ) {to : Terminus} → Tested (good m) s i j → Sole m (leg_from m s i j) (slice i j s) to
sole_of m s i j g = record { own = λ x. g.only.reading; only = λ other r. g.only.only other r.reading }

pub own_of : (m : Map) (s : List ℕ) (i j : ℕ) {to : Terminus} → Tested (good m) s i j → OwnRead m s i j to
own_of m s i j g = record { usual = record { fit = g.fit; within = g.only.reading.allowed.within }; sole = sole_of m s i j g }

-- Every reading of a leg to a position before the last ends at the node there.
pub tested_node : (m : Map) (s : List ℕ) {i j : ℕ} → i < j → j ≤ length s → {x y : ℕ} →
    Sifted (OwnRead m s i j (node (line_at m (get_or s (j - 1) 0)).end)) x y → Sifted (Tested (good m) s i j) x y
tested_node m s {i} {j} h l z =
    record {
      still = z.still;
      holds = λ one.
          let own = z.holds one in
          record {
            fit = own.usual.fit;
            only = record {
              reading = own.sole.own (ap (λ (k : ℕ). (line_at m k).end) (last_of_slice s i j h l));
              only = λ other r. own.sole.only other (record { reading = r; ends = r.allowed.ends ∙ leg_ends m s h l });
            };
          };
      stays = λ one g. z.stays one (own_of m s i j g);
    }

module _ {m : Map} (s : List ℕ) {i j : ℕ} (c : Connected m s) (h : i < j) (l : j ≤ length s) where
  own_ends : (line_at (mirror m) (last_of (slice i j s))).start ≡ (line_at m (get_or s (j - 1) 0)).end
  own_ends =
      ap (λ (x : Line). x.start) (line_mirrored m (last_of (slice i j s))) ∙ ap (λ (k : ℕ). (line_at m k).end) (last_of_slice s i j h l)

  own_known : last_of (slice i j s) < length m.lines
  own_known = last_known (slice_connected s i j h l c)

  pub open_start : (to : Terminus) {at x y : ℕ} → at ≡ latest (mirror m) (line_at m (get_or s (j - 1) 0)).end (length m.lines) →
      Sifted (OwnRead m s i j to) x y → Open m s i j at x y
  open_start to {at} e z =
      record {
        still = z.still;
        usual = λ one. (z.holds one).usual;
        sole = λ one. record {
          own = λ le. absurd
              (omega
              (arith, le, e, latest_all (mirror m) (line_at m (get_or s (j - 1) 0)).end (length m.lines) (last_of (slice i j s)) own_known own_ends));
          only = λ other r. absurd (none_yet {m = m} {leg = leg_from m s i j} at (rw (leg_ends m s h l) e) other r);
        };
        good = λ one g. z.stays one (own_of m s i j g);
      }

  pub open_on : {at next x y y' : ℕ} → 0 < at → (line_at (mirror m) (at - 1)).start ≡ (line_at m (get_or s (j - 1) 0)).end →
      next ≡ latest (mirror m) (line_at (mirror m) (at - 1)).start (at - 1) → Open m s i j at x y →
      Sifted (Sole m (leg_from m s i j) (slice i j s) (line (at - 1))) y y' → Open m s i j next x y'
  open_on {at} {next} some there e o z =
      record {
        still = λ one. o.still (z.still one);
        usual = λ one. o.usual (z.still one);
        sole = λ one. on (o.sole (z.still one)) (z.holds one);
        good = λ one g. z.stays (o.good one g) (sole_of m s i j g);
      }
    where
      mine : SoleFrom m (leg_from m s i j) (slice i j s) at → Sole m (leg_from m s i j) (slice i j s) (line (at - 1)) →
          next ≤ last_of (slice i j s) → Dec (last_of (slice i j s) < at - 1) → Dec (at - 1 < last_of (slice i j s)) →
          Reading m (leg_from m s i j) (slice i j s)
      mine a b le (yes before) q =
          absurd
          (omega (arith, le, e, latest_all (mirror m) (line_at (mirror m) (at - 1)).start (at - 1) (last_of (slice i j s)) before (own_ends ∙ sym there)))
      mine a b le (no before) (yes after) = a.own (omega arith)
      mine a b le (no before) (no after) = b.own (omega arith)

      on : SoleFrom m (leg_from m s i j) (slice i j s) at → Sole m (leg_from m s i j) (slice i j s) (line (at - 1)) →
          SoleFrom m (leg_from m s i j) (slice i j s) next
      on a b =
          record {
            own = λ le. mine a b le (dec_lt (last_of (slice i j s)) (at - 1)) (dec_lt (at - 1) (last_of (slice i j s)));
            only = λ other r.
                ⊎_elim (a.only other) (b.only other) (no_other {m = m} {leg = leg_from m s i j} at next some (there ∙ sym (leg_ends m s h l)) e other r);
          }

  pub open_end : {at x y : ℕ} → at ≡ 0 → Open m s i j at x y → Sifted (Tested (good m) s i j) x y
  open_end {at} e o =
      record {
        still = o.still;
        holds = λ one.
            record {
              fit = (o.usual one).fit;
              only = record {
                reading = (o.sole one).own (omega arith);
                only = λ other r. (o.sole one).only other (record { reading = r; ends = omega arith });
              };
            };
        stays = o.good;
      }

  -- A last line of other attributes has no reading of the leg.
  pub not_alike : {last x : ℕ} → j ≡ length s → (arriving m last ≡ arriving m (get_or s (j - 1) 0) → ⊥) → Sifted (Asked m s i j (line last) false) x x
  not_alike {last} e differs =
      record {
        still = λ one. one;
        holds = λ one. record {
          own = λ same. absurd (differs (ap (arriving m) (sym same ∙ last_of_slice s i j h l)));
          only = λ other r. absurd (not_arriving {m = m} {leg = leg_from m s i j} last (arrives_so m s h l e) differs other r);
        };
        stays = λ one sole. one;
      }

-- The own last line is not tested again.
pub not_again : {m : Map} {s : List ℕ} {i j : ℕ} {to : Terminus} {x : ℕ} → (x ≡ 1 → OwnRead m s i j to) → Sifted (Asked m s i j to false) x x
not_again own = record { still = λ one. one; holds = λ one. (own one).sole; stays = λ one sole. one }

module _ {P : Type 0} {x : ℕ} where
  -- A number that is not 1 is not tested, and one that is, is.
  pub not_tested : (x ≡ 1 → ⊥) → Sifted P x x
  not_tested differs = record { still = λ one. one; holds = λ one. absurd (differs one); stays = λ one p. one }

  pub stays_so : P → Sifted P x x
  stays_so p = record { still = λ one. one; holds = λ one. p; stays = λ one q. one }

  pub fails : (P → ⊥) → Sifted P x 0
  fails never = record { still = λ one. absurd (omega arith); holds = λ one. absurd (omega arith); stays = λ one p. absurd (never p) }
