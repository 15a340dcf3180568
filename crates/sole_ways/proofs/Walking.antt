-- How a wall is found: back from a line by predecessors, until the stretch is met.
use Prim.Native.Nat.{ℕ, ◌+◌, ◌-◌, ◌≤◌, ◌<◌, max}
use mathlib.Core.Path.{◌≡◌, refl, sym, ◌∙◌, ap, subst}
use mathlib.Core.Logic.{◌≢◌}
use mathlib.Core.List.{List, [], ◌∷◌}
use native.Mathlib.Omega.{arith}
use lib.ListN.{length, get_or}
use lib.Seq.{slice}
use Rattle.model.specs.Map.{Map, greatest_line_count}
use Rattle.model.specs.Work.{work_length}
use Rattle.model.specs.Lines.{line_at, Connected, linked, total, lowest, first_of, last_of}
use Rattle.model.proofs.Joining.{filled}
use Rattle.work_area.specs.Area.{line_place}
use Rattle.work_area.specs.Mirror.{mirror}
use Rattle.way_lengths.specs.declared.Terminus.{Terminus}
use Rattle.way_lengths.specs.Ways.{line, Way}
use Rattle.way_lengths.proofs.Plain.{way_one, total_one}
use Rattle.search_cells.specs.Area.{Searched, Set, Tie, length_to, predecessor, several}
use Rattle.ways.proofs.Back.{near, short, tie_near}
use Rattle.stretches.specs.Known.{Known}
use Rattle.sole_ways.specs.declared.ahead.Along.{Along}
use Rattle.sole_ways.specs.SoleWays.{Follows, Joins, Walled}
use Rattle.sole_ways.proofs.Slices.{first_of_slice, last_of_slice, total_then, lowest_then, total_slice_more, slice_connected}
use Rattle.sole_ways.proofs.Sole.{sole_upto}
use Rattle.sole_ways.proofs.Steps.{sole_of}
use Rattle.sole_ways.proofs.Parts.{frc_mirrored}
use Rattle.model.specs.Lines as model

-- The work area has room for a line, and holds its class.
pub line_room : {m : Map} {lines l : ℕ} {w : List ℕ} → Set m lines w → l < lines → (l < greatest_line_count) × (work_length ≤ length w)
line_room set h = let f = set.held.formed in (omega (arith, h, f.few_lines, set.held.line_count), set.held.full)

pub class_held : {m : Map} {lines x : ℕ} {w : List ℕ} (l : ℕ) → Set m lines w → l < lines → x ≡ get_or w (line_place l + 3) 0 → x ≡ (line_at (mirror m) l).frc
class_held {m} l set h e = e ∙ set.held.line_held l 3 h (omega arith) ∙ sym (frc_mirrored m l)

-- One line more before a way.
way_before : {m : Map} {c a b : ℕ} {to : Terminus} {ls : List ℕ} → Way m c (line a) to ls → b < length m.lines → model.Follows m b a →
    Way m (max c (line_at m b).frc) (line b) to (b ∷ ls)
unfolding first_of last_of lowest
way_before {ls = []} w h f = absurd (omega (arith, filled w.connected))
way_before {m} {b = b} {ls = x ∷ ls} w h f =
    record {
      connected = linked h (subst (model.Follows m b) (sym w.starts) f) w.connected;
      starts = refl;
      ends = w.ends;
      classes = omega (arith, w.classes);
    }

total_first : (m : Map) (l : ℕ) (ls : List ℕ) → total m (l ∷ ls) ≡ (line_at m l).length + total m ls
unfolding total
total_first m l ls = refl

-- A way of this class from line `at` to line `last`. It is as long as the lengths found say.
pub record WayBack (m : Map) (lines limit : ℕ) (w : List ℕ) (last at class : ℕ) : Type 0 where
  pub known : at < lines
  pub near : length_to w at ≤ limit
  pub list : List ℕ
  pub way : Way m class (line at) (line last) list
  pub sum : total m list + length_to w at ≡ length_to w last + (line_at m at).length

module _ {m : Map} {n c limit : ℕ} {from : Terminus} {w : List ℕ} {last : ℕ} (s : Searched m n c from limit w) where
  pub back_start : {class : ℕ} → last < n → length_to w last ≤ limit → class ≡ (line_at m last).frc → WayBack m n limit w last last class
  back_start known near e =
      record {
        known = known;
        near = near;
        list = last ∷ [];
        way = way_one (omega (arith, s.held.line_count)) refl (omega (arith, e));
        sum = omega (arith, total_one m last);
      }

  -- One line further back.
  module _ {at class : ℕ} (p : ℕ) (k : WayBack m n limit w last at class) (one : (p + 1 ≡ predecessor w at) × (p + 1 < several)) where
    tie : Tie m w p at
    tie =
        let e : predecessor w at - 1 ≡ p = omega (arith, one.0) in
        subst (λ (l : ℕ). Tie m w l at) e ((s.tied at k.known k.near).tie (omega (arith, one.0)) (omega (arith, one)))

    before : (p < n) × (length_to w p < length_to w at)
    before = tie_near s k.known k.near tie

    pub back_known : p < n
    back_known = before.0

    pub back_less : length_to w p < length_to w at
    back_less = before.1

    pub back_on : {frc : ℕ} → frc ≡ (line_at m p).frc → WayBack m n limit w last p (max class frc)
    back_on e =
        record {
          known = back_known;
          near = omega (arith, back_less, k.near);
          list = p ∷ k.list;
          way = rw e (way_before k.way tie.known tie.follows);
          sum = omega (arith, k.sum, tie.equal, total_first m p k.list);
        }

module _ {m : Map} {lines : ℕ} {s : List ℕ} {i : ℕ} {w : List ℕ} {along : Along} (known : Known lines s) (joint : Connected (mirror m) s)
    (f : Follows m lines s i w along) where
  -- The stretch's own lines are the shortest way to each of them.
  own_length : (q : ℕ) → i ≤ q → q < along.to → length_to w (get_or s q 0) ≡ total (mirror m) (slice i (q + 1) s)
  own_length q h l =
      let inside = f.inside in
      let all-totals = total_then (mirror m) s i (q + 1) along.to (omega arith) (omega arith) inside in
      let all-classes = lowest_then (mirror m) s i (q + 1) along.to (omega arith) (omega arith) inside in
      let at : q + 1 - 1 ≡ q = omega arith in
      let first = first_of_slice s i (q + 1) (omega arith) (omega (arith, inside)) in
      let whole = sole_of f.searched (known (along.to - 1) (omega (arith, inside))) f.near (first_of_slice s i along.to f.after inside) f.only in
      let upto = sole_upto s joint i (q + 1) along.to (omega arith) (omega arith) inside refl f.only.way.classes whole in
      let own : Way (mirror m) along.class (line (get_or s i 0)) (line (get_or s q 0)) (slice i (q + 1) s) =
      record {
        connected = slice_connected s i (q + 1) (omega arith) (omega (arith, inside)) joint;
        starts = first;
        ends = last_of_slice s i (q + 1) (omega arith) (omega (arith, inside)) ∙ ap (λ (x : ℕ). get_or s x 0) at;
        classes = omega (arith, all-classes, f.only.way.classes);
      }
      in
      let q< = known q (omega (arith, inside)) in
      let no_more = short f.searched q< own (omega (arith, all-totals, f.only.sum, f.near)) in
      let within : length_to w (get_or s q 0) ≤ along.limit = omega (arith, no_more, all-totals, f.only.sum, f.near) in
      let r = (near f.searched (get_or s q 0) q< within).some in
      let way = subst (λ (x : ℕ). Way (mirror m) along.class (line x) (line (get_or s (q + 1 - 1) 0)) r.list) (sym first)
      (subst (λ (x : ℕ). Way (mirror m) along.class (line (get_or s i 0)) (line (get_or s x 0)) r.list) (sym at) r.way) in
      sym r.sum ∙ ap (total (mirror m)) (upto.only r.list way (omega (arith, r.sum, no_more)))

  -- The way back meets the stretch at position `k`.
  pub back_met : {last at class : ℕ} (k : ℕ) → i < k → k < along.to → along.to < length s → at ≡ get_or s k 0 → Joins m lines s along.to w last →
      WayBack (mirror m) lines along.limit w last at class → Walled (mirror m) s (record { from = k; to = along.to; class = class })
  back_met {last} {at} {class} k h l inside e j b =
      let own-last : length_to w (get_or s (along.to - 1) 0) ≡ total (mirror m) (slice i along.to s) = sym f.only.sum in
      let here : length_to w at ≡ total (mirror m) (slice i (k + 1) s) = ap (length_to w) e ∙ own_length k (omega arith) l in
      let size : (line_at (mirror m) at).length ≡ (line_at (mirror m) (get_or s k 0)).length = ap (λ (x : ℕ). (line_at (mirror m) x).length) e in
      record {
        ordered = l;
        inside = inside;
        last = last;
        other = b.list;
        way = subst (λ (x : ℕ). Way (mirror m) class (line x) (line last) b.list) e b.way;
        follows = j.follows;
        differs = j.differs;
        short = omega (
          arith,
          b.sum,
          j.near,
          own-last,
          here,
          size,
          total_then (mirror m) s i k along.to (omega arith) (omega arith) f.inside,
          total_slice_more s i k (omega arith) (omega (arith, inside)) (mirror m),
        );
      }

-- Line `here` has one predecessor.
module _ {m : Map} {lines c limit : ℕ} {from : Terminus} {w : List ℕ} {here x : ℕ} (found : Searched m lines c from limit w) (here< : here < lines)
    (within : length_to w here ≤ limit) (one : (x + 1 ≡ predecessor w here) × (x + 1 < several)) where
  last_tie : Tie m w x here
  last_tie =
      let e : predecessor w here - 1 ≡ x = omega (arith, one.0) in
      subst (λ (l : ℕ). Tie m w l here) e ((found.tied here here< within).tie (omega (arith, one.0)) (omega (arith, one)))

  pub last_known : x < lines
  last_known = omega (arith, last_tie.known, found.held.line_count)

-- It stands at position `to`, and its predecessor is another line than the stretch's own and as near.
pub last_joins : (m : Map) {lines c limit : ℕ} {from : Terminus} (s : List ℕ) {w : List ℕ} (to : ℕ) {here before x : ℕ} →
    Searched (mirror m) lines c from limit w → here < lines → length_to w here ≤ limit → (x + 1 ≡ predecessor w here) × (x + 1 < several) →
    here ≡ get_or s to 0 → before ≡ get_or s (to - 1) 0 → x ≢ before → length_to w x ≤ length_to w before → Joins m lines s to w x
last_joins m s {w = w} to {x = x} found here< within one is own differs near =
    record {
      known = last_known found here< within one;
      follows = subst (model.Follows (mirror m) x) is (last_tie found here< within one).follows;
      differs = λ same. differs (same ∙ sym own);
      near = omega (arith, near, ap (length_to w) own);
    }
