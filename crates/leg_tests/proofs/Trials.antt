-- A leg of the stretch under test: its own lines, and what a search back from a terminus makes ready.
use Prim.Native.Nat.{ℕ, zero, suc, ◌+◌, ◌≤◌, ◌<◌}
use mathlib.Core.Path.{◌≡◌, refl, sym, ◌∙◌, ap, subst}
use mathlib.Core.Bool.{Bool, true, false}
use mathlib.Core.List.{List}
use native.Mathlib.Omega.{arith}
use lib.ListN.{length, get_or, take}
use lib.Seq.{slice, length-slice, get_or-drop, get_or-take}
use lib.Dec.{eqb}
use Rattle.model.specs.Map.{Map}
use Rattle.model.specs.Field.{distance}
use Rattle.model.specs.Lines.{line_at, Connected, single, linked, total, lowest, first_of, last_of, leaving}
use Rattle.model.specs.WellFormed.{WellFormed}
use Rattle.model.specs.Reading.{Arrives, Allowed, greatest_leg_length}
use Rattle.model.specs.Choice.{arrival_of, from_node, to_node, leg_of}
use Rattle.model.proofs.Joining.{first_known, lowest_small}
use Rattle.buffers.proofs.Kept.{kept_none}
use Rattle.work_area.specs.Mirror.{mirror}
use Rattle.work_area.proofs.Holding.{held_kept}
use Rattle.way_lengths.specs.declared.Terminus.{Terminus}
use Rattle.way_lengths.specs.Ways.{Ends}
use Rattle.search_cells.specs.Area.{Searched, Set}
use Rattle.search.specs.Promises.{Finished}
use Rattle.fields.specs.Leg.{LongestLeg, leg_in}
use Rattle.fields.specs.declared.leg.Leg.{Leg}
use Rattle.fields.specs.declared.leg.Reading.{Reading}
use Rattle.fields.specs.declared.leg.Verdict.{Verdict}
use Rattle.legs.specs.Verdict.{LimitFor, TerminusOf, Ready, ReadingTo, ReadingFrom, Says, Anywhere}
use Rattle.legs.proofs.Joining.{says_same, says_then}
use Rattle.stretches.specs.Known.{Known}
use Rattle.leg_tests.specs.LegTests.{leg_from, Alone, Serves, Own, OwnLines, DoneUpTo, OnLeg, Trial, Prepared}
use Rattle.sole_ways.proofs.Slices.{first_of_slice, last_of_slice, slice_connected}
use Rattle.model.specs.Reading as definitions

arrives_so : (m : Map) (last : Bool) (ls : List ℕ) → Arrives m (arrival_of m last ls) ls
unfolding arrival_of
arrives_so m true ls = refl
arrives_so m false ls = tt

own_allowed : {m : Map} (last : Bool) {ls : List ℕ} → Connected m ls → total m ls ≤ greatest_leg_length → Allowed m (leg_of m last ls) ls
unfolding leg_of from_node to_node
own_allowed {m} last {ls} c short =
    record {
      connected = c;
      starts = refl;
      leaves = refl;
      ends = refl;
      arrives = arrives_so m last ls;
      classes = omega arith;
      within = short;
    }

module _ {m : Map} {lines : ℕ} {s : List ℕ} {i j class len : ℕ} (t : Trial m lines s i j class len) where
  pub joined : Connected m (slice i j s)
  joined = slice_connected s i j t.measured.ordered t.measured.inside t.connected

  pub class_small : WellFormed m → class ≤ 7
  class_small w = omega (arith, t.measured.classes, lowest_small w joined)

  module _ {to : Terminus} (own : Own m lines s j to) where
    pub ends_there : Ends m to (last_of (slice i j s))
    ends_there = subst (Ends m to) (sym (last_of_slice s i j t.measured.ordered t.measured.inside)) own.ends

    pub leg_lines : len ≤ greatest_leg_length → OwnLines m (leg_from m s i j) (slice i j s) to (get_or s i 0) len
    unfolding leg_of
    leg_lines short =
        let x = t.measured in
        record {
          allowed = own_allowed (eqb j (length s)) joined (omega (arith, x.sum));
          distanced = refl;
          starts = first_of_slice s i j x.ordered x.inside;
          sum = sym x.sum;
          terminus = own.serves.terminus i x.ordered;
          ends = ends_there;
        }

  -- Where the first line is alone, every reading starts with it.
  pub only_first : {to : Terminus} → length m.lines ≡ lines → Alone m lines s i → (ls : List ℕ) → ReadingTo m (leg_from m s i j) to ls →
      ReadingFrom m (leg_from m s i j) (get_or s i 0) to ls
  unfolding leg_of from_node
  only_first all alone ls r =
      let x = t.measured in
      let a = r.reading.allowed in
      let own = first_of_slice s i j x.ordered x.inside in
      record {
        reading = r.reading;
        starts = alone (first_of ls) (omega (arith, all, first_known a.connected))
            (a.starts ∙ ap (λ (l : ℕ). (line_at m l).start) own) (a.leaves ∙ ap (leaving m) own);
        ends = r.ends;
      }

  pub says_alone : {to : Terminus} {N : Reading → List ℕ → Type 0} {v : Verdict} → length m.lines ≡ lines → Alone m lines s i →
      Says m (ReadingFrom m (leg_from m s i j) (get_or s i 0) to) N v → Says m (ReadingTo m (leg_from m s i j) to) Anywhere v
  says_alone all alone says =
      says_same (λ ls r. record { reading = r.reading; ends = r.ends }) (only_first all alone) (says_then (λ q ls is o n. tt) says)

  -- The search is ready for the leg as its bytes will say.
  pub ready : {to : Terminus} {limit : ℕ} {w : List ℕ} → Set m lines w → Serves m lines s j to → DoneUpTo m lines class to len limit w →
      (leg : Leg) → leg_in leg ≡ leg_from m s i j → Ready m lines leg to limit w
  unfolding leg_in leg_of
  ready {to} {limit} {w} set serves up leg e =
      let x = t.measured in
      let lowest-is : leg.lowest ≡ lowest m (slice i j s) = ap (λ (l : definitions.Leg). l.lowest) e in
      let distance_is : leg.distance ≡ distance (total m (slice i j s)) = ap (λ (l : definitions.Leg). l.distance) e in
      record {
        held = set.held;
        searched = subst (λ (c : ℕ). Searched (mirror m) lines c to limit w) (x.classes ∙ sym lowest-is) up.searched;
        limited = subst (λ (d : ℕ). LimitFor d limit) (ap distance x.sum ∙ sym distance_is) up.limited;
        terminus = subst (λ (l : definitions.Leg). TerminusOf m l to) (sym e) (serves.terminus i x.ordered);
      }

-- A search that was done before serves, and a new one.
module _ {m : Map} {lines class : ℕ} {to : Terminus} {len : ℕ} {w : List ℕ} (set : Set m lines w) where
  pub not_again : {limit longest : ℕ} → LongestLeg (distance len) longest → longest ≤ limit → Searched (mirror m) lines class to limit w →
      Prepared m lines class to len w w limit
  not_again l far done =
      record {
        done = record { limited = record { within = done.small; holds = λ length a b. omega (arith, l.holds length a b) }; searched = done };
        worked = record { set = set; kept = kept_none };
      }

  pub anew : {limit : ℕ} {v : List ℕ} → LimitFor (distance len) limit → Finished (mirror m) lines class to limit w v →
      Prepared m lines class to len w v limit
  anew l f =
      record {
        done = record { limited = l; searched = f.searched };
        worked = record { set = record { held = held_kept (omega arith) f.kept set.held; chained = f.chained }; kept = f.kept };
      }

-- The lines of a connected list are the map's.
pub connected_lines : {m : Map} {ls : List ℕ} → Connected m ls → Known (length m.lines) ls
connected_lines (single h) zero l = h
connected_lines (single h) (suc i) l = absurd (omega arith)
connected_lines (linked h f c) zero l = h
connected_lines (linked h f c) (suc i) l = connected_lines c i (omega arith)

module _ {m : Map} {lines : ℕ} {s w : List ℕ} (set : Set m lines w) (c : Connected m s) where
  pub all_known : Known lines s
  all_known = subst (λ (n : ℕ). Known n s) set.held.line_count (connected_lines c)

  pub leg_of_lem : {i j : ℕ} → length s ≤ 64 → i < j → j ≤ length s → OnLeg m lines s i j
  leg_of_lem few h l = record { known = all_known; connected = c; few = few; ordered = h; inside = l }

-- A leg with its class and its length.
pub trial_of : {m : Map} {lines : ℕ} {s : List ℕ} {i j class len : ℕ} → OnLeg m lines s i j → class ≡ lowest m (slice i j s) → len ≡ total m (slice i j s) →
    Trial m lines s i j class len
trial_of t c e =
    record {
      known = t.known;
      connected = t.connected;
      few = t.few;
      measured = record { ordered = t.ordered; inside = t.inside; classes = c; sum = e };
    }

-- The lines of a part are lines of the stretch.
pub part_known : {lines : ℕ} (s : List ℕ) (i j : ℕ) → j ≤ length s → Known lines s → Known lines (slice i j s)
part_known {lines} s i j l known k h =
    let size = length-slice i j s l in
    subst (λ (x : ℕ). x < lines) (sym (get_or-drop i (take j s) k 0 ∙ get_or-take j s (i + k) 0 (omega arith))) (known (i + k) (omega arith))
