-- The test of a leg: a search that serves it is done, the stretch's lines are gone along, and what that says of the leg.
use Prim.Native.Nat.{ℕ, ◌+◌, ◌-◌, ◌≤◌, ◌<◌, max}
use mathlib.Core.Path.{◌≡◌, refl, sym, ◌∙◌, ap, subst}
use mathlib.Core.Bool.{Bool, true, false, not, true≢false}
use mathlib.Core.List.{List, [], ◌∷◌}
use native.Mathlib.Omega.{arith}
use lib.ListN.{length, get_or}
use lib.Seq.{slice}
use borrow.Author.Tests.{eq-eqb, ne_eqb}
use Rattle.model.specs.Map.{Map}
use Rattle.model.specs.Lines.{line_at, total, lowest}
use Rattle.buffers.specs.Decides.{Decides}
use Rattle.work_area.specs.Mirror.{mirror}
use Rattle.work_area.proofs.Holding.{held_kept}
use Rattle.way_lengths.specs.Ways.{line, Way, OnlyWay}
use Rattle.way_lengths.proofs.Plain.{way_one, total_one}
use Rattle.search_cells.specs.Area.{Searched, Set, length_to}
use Rattle.search.specs.Promises.{Finished}
use Rattle.ways.proofs.Back.{short, longer, only_alone}
use Rattle.sole_ways.specs.declared.part.Part.{Part}
use Rattle.sole_ways.specs.declared.ahead.Along.{Along}
use Rattle.sole_ways.specs.declared.test.SoleTest.{SoleTest}
use Rattle.sole_ways.specs.SoleWays.{SoleUnder, SoleWay, own_end, Follows, Serves, OnTrial, Worked, SearchedFor, Advanced, Rival, Looked, LegTested}
use Rattle.sole_ways.proofs.Slices.{first_of_slice, slice_one, total_then, lowest_then}
use Rattle.sole_ways.proofs.Sole.{sole_lower, sole_upto, own_ends}
use Rattle.sole_ways.proofs.Steps.{sole_of}
use Rattle.sole_ways.proofs.Rivals.{no_rival, rival_found}

-- The first line of a search is reached by itself alone.
module _ {m : Map} {n c limit first : ℕ} {w : List ℕ} (s : Searched m n c (line first) limit w) (first< : first < n) (class : (line_at m first).frc ≤ c)
    (within : (line_at m first).length ≤ limit) where
  itself : Way m c (line first) (line first) (first ∷ [])
  itself = way_one (omega (arith, s.held.line_count)) refl class

  no_longer : length_to w first ≤ (line_at m first).length
  no_longer = omega (arith, total_one m first, short s first< itself (omega (arith, total_one m first)))

  pub first_near : length_to w first ≤ limit
  first_near = omega (arith, no_longer)

  pub first_only : OnlyWay m c (line first) (line first) (length_to w first) (first ∷ [])
  first_only = only_alone s first< first_near (λ p t. omega (arith, no_longer, longer s first< first_near t))

class_one : (m : Map) (l : ℕ) → lowest m (l ∷ []) ≡ (line_at m l).frc
unfolding lowest
class_one m l = omega arith

-- The work area after a search.
pub worked_after : {m : Map} {lines class limit first : ℕ} {w v : List ℕ} → Set m lines w → Finished (mirror m) lines class (line first) limit w v → Worked m lines w v
worked_after set f = record { set = record { held = held_kept (omega arith) f.kept set.held; chained = f.chained }; kept = f.kept }

module _ {m : Map} {lines : ℕ} {s : List ℕ} {p : Part} (t : OnTrial m lines s p) where
  inside : p.to ≤ length s
  inside = t.measured.inside

  -- A search from the first line of a part, of its class at least and as far as it is long.
  pub searched_for : {class limit most : ℕ} {w v : List ℕ} → Set m lines w → Finished (mirror m) lines class (line (get_or s p.from 0)) limit w v →
      p.class ≤ class → p.length ≤ limit → class ≤ max p.class most →
      SearchedFor m lines s p most w v (record { class = class; limit = limit; to = p.from + 1 })
  searched_for {class} {limit} {most} {w} {v} set f low far few =
      let some = t.some in
      let at : p.from + 1 - 1 ≡ p.from = omega arith in
      let one = slice_one p.from s (omega (arith, inside)) in
      let parts-total = total_then (mirror m) s p.from (p.from + 1) p.to (omega arith) (omega arith) inside in
      let parts-class = lowest_then (mirror m) s p.from (p.from + 1) p.to (omega arith) (omega arith) inside in
      let long : (line_at (mirror m) (get_or s p.from 0)).length ≤ limit = omega (arith, far, t.measured.sum, parts-total, ap (total (mirror m)) one, total_one (mirror m) (get_or s p.from 0)) in
      let first< = t.known p.from (omega (arith, inside)) in
      let ok = class_one (mirror m) (get_or s p.from 0) in
      let fine : (line_at (mirror m) (get_or s p.from 0)).frc ≤ class = omega (arith, low, t.measured.classes, parts-class, ap (lowest (mirror m)) one, ok) in
      record {
        follows = record {
          searched = f.searched;
          after = omega arith;
          inside = omega (arith, inside);
          near = rw at (first_near f.searched first< fine long);
          only = rw (at, one) (first_only f.searched first< fine long);
        };
        serves = record { classes = low; limit = far };
        few = few;
        start = omega arith;
        worked = worked_after set f;
      }

  module _ {w : List ℕ} {a : Along} {at : ℕ} (f : Follows m lines s p.from w a) (served : Serves p a) (adv : Advanced m lines s p.from p.to w a at) where
    classes : lowest (mirror m) (slice p.from p.to s) ≤ a.class
    classes = omega (arith, t.measured.classes, served.classes)

    -- The way breaks before the leg's last line.
    pub not_upto : at < p.to → SoleUnder (mirror m) a.class (slice p.from p.to s) (own_end (mirror m) s p.to) → ⊥
    not_upto less sole =
        let e : at + 1 - 1 ≡ at = omega arith in
        let i< = adv.after in
        adv.broken less
        (subst (λ (x : ℕ). SoleUnder (mirror m) a.class (slice p.from (at + 1) s) (line (get_or s x 0))) e
        (sole_upto s t.connected p.from (at + 1) p.to (omega arith) (omega arith) inside (own_ends (mirror m) s p.to) classes sole))

    module _ (here : p.to ≤ at) where
      last< : get_or s (p.to - 1) 0 < lines
      last< = let some = t.some in t.known (p.to - 1) (omega (arith, inside))

      same : at ≡ p.to
      same = let le = adv.inside in omega arith

      only : OnlyWay (mirror m) a.class (line (get_or s p.from 0)) (line (get_or s (p.to - 1) 0)) (length_to w (get_or s (p.to - 1) 0)) (slice p.from p.to s)
      only =
          subst (λ (x : ℕ). OnlyWay (mirror m) a.class (line (get_or s p.from 0)) (line (get_or s (x - 1) 0)) (length_to w (get_or s (x - 1) 0)) (slice p.from x s))
          same adv.only

      close : length_to w (get_or s (p.to - 1) 0) ≤ a.limit
      close = subst (λ (x : ℕ). length_to w (get_or s (x - 1) 0) ≤ a.limit) same adv.near

      -- The leg goes to the last position.
      pub sole_last : p.to ≡ length s → SoleUnder (mirror m) a.class (slice p.from p.to s) (own_end (mirror m) s p.to)
      sole_last e =
          rw (eq-eqb p.to (length s) e) (sole_of f.searched last< close (first_of_slice s p.from p.to t.some inside) only)

      -- It goes to a node.
      pub sole_node : (p.to ≡ length s → ⊥) → (r : Bool) → Decides (Rival m lines (get_or s (p.to - 1) 0) w) r →
          Decides (SoleUnder (mirror m) a.class (slice p.from p.to s) (own_end (mirror m) s p.to)) (not r)
      sole_node d true rival =
          rw (ne_eqb p.to (length s) d) (rival_found f.searched last< close (first_of_slice s p.from p.to t.some inside) only rival)
      sole_node d false none =
          rw (ne_eqb p.to (length s) d) (no_rival f.searched last< close (first_of_slice s p.from p.to t.some inside) only none)

-- What going along says of the leg.
pub looked : {m : Map} {lines : ℕ} {s : List ℕ} {p : Part} {w : List ℕ} {a : Along} {at : ℕ} (sole : Bool) → OnTrial m lines s p →
    Follows m lines s p.from w a → Advanced m lines s p.from p.to w a at →
    Decides (SoleUnder (mirror m) a.class (slice p.from p.to s) (own_end (mirror m) s p.to)) sole →
    Looked m lines s p w a (record { sole = sole; along = record { class = a.class; limit = a.limit; to = at } })
looked sole t f adv says =
    let le = adv.inside in
    record {
      says = says;
      class = refl;
      follows = record { searched = f.searched; after = adv.after; inside = omega (arith, t.measured.inside); near = adv.near; only = adv.only };
      start = adv.inside;
      broken = adv.broken;
    }

-- What a look after a search says of the leg under its own class.
module _ {m : Map} {lines : ℕ} {s : List ℕ} {p : Part} {w v : List ℕ} {a : Along} {r : SoleTest} (t : OnTrial m lines s p) (served : Serves p a)
    (l : Looked m lines s p v a r) (worked : Worked m lines w v) where
  own_class : lowest (mirror m) (slice p.from p.to s) ≤ a.class
  own_class = omega (arith, t.measured.classes, served.classes)

  pub tested_sole : r.sole ≡ true → LegTested m lines s p w v r
  tested_sole e =
      let sole = subst (Decides (SoleUnder (mirror m) a.class (slice p.from p.to s) (own_end (mirror m) s p.to))) e l.says in
      record {
        says = subst (Decides (SoleWay (mirror m) (slice p.from p.to s) (own_end (mirror m) s p.to))) (sym e) (sole_lower own_class sole);
        follows = l.follows;
        start = l.start;
        broken = λ f. let z : true ≡ false = sym e ∙ f in absurd (true≢false z);
        worked = worked;
      }

  pub tested_own : a.class ≡ p.class → LegTested m lines s p w v r
  tested_own e =
      let class : a.class ≡ lowest (mirror m) (slice p.from p.to s) = e ∙ t.measured.classes in
      let le = l.start in
      let at : r.along.to + 1 - 1 ≡ r.along.to = omega arith in
      let i< = l.follows.after in
      record {
        says = subst (λ (c : ℕ). Decides (SoleUnder (mirror m) c (slice p.from p.to s) (own_end (mirror m) s p.to)) r.sole) class l.says;
        follows = l.follows;
        start = l.start;
        broken = λ f less sole.
            l.broken less
            (subst (λ (x : ℕ). SoleUnder (mirror m) a.class (slice p.from (r.along.to + 1) s) (line (get_or s x 0))) at
            (sole_upto s t.connected p.from (r.along.to + 1) p.to (omega arith) (omega arith) t.measured.inside refl (omega (arith, class))
            (subst (λ (c : ℕ). SoleUnder (mirror m) c (slice p.from p.to s) (line (get_or s (p.to - 1) 0))) (sym class) sole)));
        worked = worked;
      }
