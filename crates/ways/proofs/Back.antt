-- The way back from a line, by the predecessor of each: where that is always one, the way is the only one of its length.
use Rattle.model.specs.Map.{Map}
use Rattle.way_lengths.specs.declared.Terminus.{Terminus}
use Rattle.search_cells.specs.Area.{several, length_to, lines_from, Tie, Predecessors, Searched, predecessor}
use Prim.Native.Nat.{ℕ, zero, suc, ◌+◌, ◌-◌, ◌≤◌, ◌<◌}
use mathlib.Core.Path.{◌≡◌, refl, sym, ◌∙◌, ap, subst}
use mathlib.Core.Bool.{cond}
use mathlib.Core.List.{List, [], ◌∷◌, ◌++◌}
use mathlib.Core.Logic.{◌⊎◌, inl, inr, ⊎_elim, ◌≢◌}
use native.Mathlib.Nat.{eq-or-lt_of_le}
use native.Mathlib.Omega.{arith}
use borrow.Author.Tests.{ltb-true, ltb-false}
use lib.Dec.{ltb}
use Rattle.model.specs.Lines.{line_at, total, last_of}
use Rattle.way_lengths.specs.Ways.{line, Way, Reached, Least, OnlyWay, Two, Beyond}
use Rattle.way_lengths.proofs.Plain.{Grown, one, more, class_last, total_more, total_one, way_more, way_of, grown_of, same_before}
use Rattle.way_lengths.proofs.Follows.{known}
use Rattle.buffers.proofs.Cases.{le_or_lt, picked}
use Rattle.work_area.specs.Mirror.{mirror}
use Rattle.ways.specs.Told.{SeveralLeast, OneLeast}
use Rattle.ways.proofs.Mirroring.{backwards, backwards_more, total_mirrored, way_mirrored, beyond_back, least_back, only_back, two_back}
use Rattle.search_cells.proofs.Holding.{line_ok}
use Rattle.way_lengths.proofs.Plain.{last_known}

-- The `count` lines up to line `last`, on the mirrored map, by the predecessor of each that stands in the area.
abbrev pub lines_to : List ℕ → ℕ → ℕ → List ℕ
lines_to w last zero = []
lines_to w last (suc count) = lines_to w (predecessor w last - 1) count ++ last ∷ []

-- A way of least length, without its last line, is one to a line that ties with that.
record Back (m : Map) (c : ℕ) (f : Terminus) (w : List ℕ) (l : ℕ) (r : List ℕ) : Type 0 where
  pred : ℕ
  rest : List ℕ
  is : r ≡ rest ++ l ∷ []
  way : Way m c f (line pred) rest
  sum : total m rest ≡ length_to w pred
  tie : Tie m w pred l

module _ {m : Map} {n c limit : ℕ} {f : Terminus} {w : List ℕ} (s : Searched m n c f limit w) where
  pub near : (l : ℕ) → l < n → length_to w l ≤ limit → Least m c f (line l) (length_to w l)
  near l l< d = (s.found l l<).near d

  pub short : {l : ℕ} {r : List ℕ} → l < n → Way m c f (line l) r → total m r ≤ limit → length_to w l ≤ total m r
  short {l} {r} l< p t =
      ⊎_elim (λ d. (near l l< d).least r p) (λ d. absurd (omega (arith, (s.found l l<).far d r p))) (le_or_lt (length_to w l) limit)

  positive : {l : ℕ} {r : List ℕ} → Grown m c f l r → 1 ≤ total m r
  positive {l} (one i b k) = let h = s.held in omega (arith, (line_ok h {l = l} (omega (arith, h.line_count))).some, total_one m l)
  positive (more {j = j} {ls = r} p g k) =
      let h = s.held in
      let to = known g in
      omega (arith, (line_ok h {l = j} (omega (arith, h.line_count))).some, total_more m r j)

  back : {l : ℕ} {r : List ℕ} → Grown m c f l r → total m r ≡ length_to w l → length_to w l ≤ limit → (r ≡ l ∷ []) ⊎ Back m c f w l r
  back (one i b k) e d = inl refl
  back (more {l} {j} {ls = r} p g k) e d =
      let h = s.held.line_count in
      let from = last_known p in
      let to = known g in
      let t = total_more m r j in
      let a = short (omega arith) (way_of p) (omega arith) in
      let q = (near l (omega arith) (omega arith)).some in
      let b = (near j (omega arith) d).least _ (way_more q.way g k) in
      let z : total m r ≡ length_to w l = omega (arith, q.sum, total_more m q.list j) in
      inr
      (record { pred = l; rest = r; is = refl; way = way_of p; sum = z; tie = record { known = from; follows = g; equal = omega arith } })

  module _ {l : ℕ} (l< : l < n) (d : length_to w l ≤ limit) where
    pub tie_near : {p : ℕ} → Tie m w p l → (p < n) × (length_to w p < length_to w l)
    tie_near t =
        let h = s.held in
        let from = t.known in
        (omega (arith, h.line_count), omega (arith, t.equal, (line_ok h l<).some))

    -- No line ties with line `l`: then the only way is that line.
    alone : {r : List ℕ} → ((p : ℕ) → Tie m w p l → ⊥) → Way m c f (line l) r → total m r ≡ length_to w l → r ≡ l ∷ []
    alone none p e = ⊎_elim (λ a. a) (λ b. absurd (none b.pred b.tie)) (back (grown_of p) e d)

    pub only_alone : ((p : ℕ) → Tie m w p l → ⊥) → OnlyWay m c f (line l) (length_to w l) (l ∷ [])
    only_alone none =
        let q = (near l l< d).some in
        let e = alone none q.way q.sum in
        record { way = subst (Way m c f (line l)) e q.way; sum = ap (total m) (sym e) ∙ q.sum; only = λ r p z. alone none p z }

    -- Where one does, a way is longer than that line.
    pub longer : {p : ℕ} → Tie m w p l → (line_at m l).length < length_to w l
    longer {p} t =
        let a = tie_near t in
        let q = (near p a.0 (omega (arith, a.1))).some in
        omega (arith, t.equal, q.sum, positive (grown_of q.way))

    class_at : (line_at m l).frc ≤ c
    class_at = class_last (grown_of (near l l< d).some.way)

    -- A way to a tie of line `l`, and then `l`.
    abbrev onto : {p : ℕ} → Tie m w p l → Reached m c f (line p) (length_to w p) → Reached m c f (line l) (length_to w l)
    onto t r =
        record {
          list = r.list ++ l ∷ [];
          way = way_more r.way t.follows class_at;
          sum = omega (arith, r.sum, t.equal, total_more m r.list l);
        }

    pub only_step : {p : ℕ} {r : List ℕ} → Tie m w p l → ((a : ℕ) → Tie m w a l → a ≡ p) →
        OnlyWay m c f (line p) (length_to w p) r → OnlyWay m c f (line l) (length_to w l) (r ++ l ∷ [])
    only_step {p} {r} t alone o =
        let one = onto t (record { list = r; way = o.way; sum = o.sum }) in
        record {
          way = one.way;
          sum = one.sum;
          only = λ ls q e.
              ⊎_elim
              (λ a. absurd (omega (arith, longer t, ap (total m) a, total_one m l)))
              (λ b.
              let z : b.pred ≡ p = alone b.pred b.tie in
              b.is ∙ ap (λ (x : List ℕ). x ++ l ∷ [])
              (o.only b.rest (subst (λ (x : ℕ). Way m c f (line x) b.rest) z b.way) (b.sum ∙ ap (length_to w) z)))
              (back (grown_of q) e d);
        }

    two_step : {p : ℕ} → Tie m w p l → Two m c f (line p) (length_to w p) → Two m c f (line l) (length_to w l)
    two_step t o = record { one = onto t o.one; other = onto t o.other; differ = λ e. o.differ (same_before _ _ l e) }

    pub two_ties : {a b : ℕ} → Tie m w a l → Tie m w b l → (a ≡ b → ⊥) → Two m c f (line l) (length_to w l)
    two_ties {a} {b} t u differ =
        let q = (near a (tie_near t).0 (omega (arith, (tie_near t).1))).some in
        let r = (near b (tie_near u).0 (omega (arith, (tie_near u).1))).some in
        record {
          one = onto t q;
          other = onto u r;
          differ = λ e. differ (sym q.way.ends ∙ ap last_of (same_before q.list r.list l e) ∙ r.way.ends);
        }

-- The last of the lines from line `at` on is the last of those from the next on.
last_on : (w : List ℕ) (at k : ℕ) → last_of (lines_from w at (suc (suc k))) ≡ last_of (lines_from w (predecessor w at - 1) (suc k))
unfolding last_of
last_on w at k = refl

last_one : (l : ℕ) → last_of (l ∷ []) ≡ l
unfolding last_of
last_one l = refl

-- How many of the lines below `i` are closer than `d`. The way back has no more lines than that.
abbrev pub closer : List ℕ → ℕ → ℕ → ℕ
closer w d zero = 0
closer w d (suc i) = cond (ltb (length_to w i) d) (suc (closer w d i)) (closer w d i)

if_less : (P : ℕ → Type 0) (a b x y : ℕ) → (a < b → P x) → (b ≤ a → P y) → P (cond (ltb a b) x y)
if_less P a b x y low high = picked P (ltb a b) x y (λ e. low (ltb-true a b e)) (λ e. high (ltb-false a b e))

closer_le : (w : List ℕ) (d i : ℕ) → closer w d i ≤ i
closer_le w d zero = omega arith
closer_le w d (suc i) = let h = closer_le w d i in if_less (λ x. x ≤ suc i) _ d _ _ (λ a. omega arith) (λ a. omega arith)

closer_up : (w : List ℕ) (d e i : ℕ) → d ≤ e → closer w d i ≤ closer w e i
closer_up w d e zero h = omega arith
closer_up w d e (suc i) h =
    let k = closer_up w d e i h in
    if_less (λ x. x ≤ closer w e (suc i)) _ d _ _
    (λ a. if_less (λ y. suc (closer w d i) ≤ y) _ e _ _ (λ b. omega arith) (λ b. absurd (omega arith)))
    (λ a. if_less (λ y. closer w d i ≤ y) _ e _ _ (λ b. omega arith) (λ b. omega arith))

closer_less : (w : List ℕ) (p e i : ℕ) → p < i → length_to w p < e → closer w (length_to w p) i < closer w e i
closer_less w p e zero h l = absurd (omega arith)
closer_less w p e (suc i) h l =
    let k = closer_up w (length_to w p) e i (omega arith) in
    let at : (p ≡ i) ⊎ (p < i) = eq-or-lt_of_le {n = p} {m = i} (omega arith) in
    let ih : length_to w p ≢ length_to w i → closer w (length_to w p) i < closer w e i =
    λ d. ⊎_elim (λ z. absurd (d (ap (length_to w) z))) (λ p<i. closer_less w p e i p<i l) at in
    if_less (λ x. x < closer w e (suc i)) _ (length_to w p) _ _
    (λ a. if_less (λ y. suc (closer w (length_to w p) i) < y) _ e _ _ (λ b. omega (arith, ih (omega arith))) (λ b. absurd (omega arith)))
    (λ a. if_less (λ y. closer w (length_to w p) i < y) _ e _ _ (λ b. omega arith) (λ b. ih (omega arith)))

-- `count` lines back from `last`, both counted, to `at`.
pub record Walked (m : Map) (n c : ℕ) (f : Terminus) (limit : ℕ) (w : List ℕ) (last at count : ℕ) : Type 0 where
  pub inside : at < n
  pub near : length_to w at ≤ limit
  pub some : 0 < count
  pub few : count + closer w (length_to w at) n ≤ closer w (length_to w last) n + 1
  pub only : (k : ℕ) → OnlyWay m c f (line at) (length_to w at) (lines_to w at (suc k)) →
      OnlyWay m c f (line last) (length_to w last) (lines_to w last (count + k))
  pub two : Two m c f (line at) (length_to w at) → Two m c f (line last) (length_to w last)
  pub ends : (k : ℕ) → last_of (lines_from w last (count + k)) ≡ last_of (lines_from w at (suc k))

pub walked_few : {m : Map} {n c limit : ℕ} {f : Terminus} {w : List ℕ} {last at count : ℕ} → last < n → Walked m n c f limit w last at count → count ≤ n
walked_few {n = n} {w = w} {last = last} l< k =
    let f = k.few in
    omega (arith, closer_less w last (length_to w last + 1) n l< (omega arith), closer_le w (length_to w last + 1) n)

module _ {m : Map} {n c limit : ℕ} {f : Terminus} {w : List ℕ} {last at count : ℕ} (s : Searched m n c f limit w) (k : Walked m n c f limit w last at count) where
  before : Predecessors m w n at (predecessor w at)
  before = s.tied at k.inside k.near

  pub walked_less : 0 < predecessor w at → predecessor w at < several → length_to w (predecessor w at - 1) < length_to w at
  walked_less some low = (tie_near s k.inside k.near (before.tie some low)).1

  pub walked_step : 0 < predecessor w at → predecessor w at < several → Walked m n c f limit w last (predecessor w at - 1) (count + 1)
  walked_step some low =
      let p = predecessor w at - 1 in
      let t = before.tie some low in
      let b = tie_near s k.inside k.near t in
      let alone : (a : ℕ) → Tie m w a at → a ≡ p = λ a y. before.one some low a (tie_near s k.inside k.near y).0 y in
      let nd = k.near in
      let fw = k.few in
      record {
        inside = b.0;
        near = omega (arith, b.1);
        some = omega arith;
        few = omega (arith, closer_less w p (length_to w at) n b.0 b.1);
        only = λ j o.
            let e : count + 1 + j ≡ count + suc j = omega arith in
            rw e (k.only (suc j) (only_step s k.inside k.near t alone o));
        two = λ o. k.two (two_step s k.inside k.near t o);
        ends = λ j. let e : count + 1 + j ≡ count + suc j = omega arith in rw e (k.ends (suc j) ∙ last_on w at j);
      }

  pub walked_two : several ≤ predecessor w at → Two m c f (line last) (length_to w last)
  walked_two big = let t = before.many big in k.two (two_ties s k.inside k.near t.2 t.3 t.4)

  pub walked_one : predecessor w at ≡ 0 → OnlyWay m c f (line last) (length_to w last) (lines_to w last count)
  walked_one e =
      let o = only_alone s k.inside k.near (λ p t. before.none e p (tie_near s k.inside k.near t).0 t) in
      let z : count + 0 ≡ count = omega arith in
      rw z at (k.only 0 o)

  -- On the map itself: the lines from line `last` on, and the last of them.
  pub walked_last : last_of (lines_from w last count) ≡ at
  walked_last = let z : count + 0 ≡ count = omega arith in rw z at (k.ends 0) ∙ last_one at

pub lines_backwards : (w : List ℕ) (l count : ℕ) → backwards (lines_to w l count) ≡ lines_from w l count
lines_backwards w l zero = refl
lines_backwards w l (suc count) =
    backwards_more (lines_to w (predecessor w l - 1) count) l ∙ ap (λ (r : List ℕ). l ∷ r) (lines_backwards w (predecessor w l - 1) count)

-- What is told of the ways of the map itself.
module _ {m : Map} {n c limit : ℕ} {to : Terminus} {w : List ℕ} {first at count : ℕ} (s : Searched (mirror m) n c to limit w) (first< : first < n)
    (d : length_to w first ≤ limit) (k : Walked (mirror m) n c to limit w first at count) where
  pub told_several : several ≤ predecessor w at → SeveralLeast m c first to limit (length_to w first)
  told_several big = record { within = d; least = least_back (near s first first< d); two = two_back (walked_two s k big) }

  pub told_one : predecessor w at ≡ 0 → OneLeast m c first to limit (length_to w first) (lines_from w first count)
  told_one e =
      record {
        within = d;
        least = least_back (near s first first< d);
        only = rw (lines_backwards w first count) at (only_back {m = m} {from = line first} {to = to} (walked_one s k e));
      }

-- The length in the area is no more than that of a way within the limit.
pub short_way : {m : Map} {n c first limit : ℕ} {to : Terminus} {w ls : List ℕ} → Searched (mirror m) n c to limit w → first < n →
    Way m c (line first) to ls → total m ls ≤ limit → length_to w first ≤ total m ls
short_way {m} {ls = ls} s first< p near =
    let e = total_mirrored m ls in omega (arith, short s first< (way_mirrored p) (omega arith))

-- What the length in the area says of the ways from a line.
pub found_least : {m : Map} {n c first limit : ℕ} {to : Terminus} {w : List ℕ} → Searched (mirror m) n c to limit w → first < n →
    length_to w first ≤ limit → Least m c (line first) to (length_to w first)
found_least {first = first} s first< d = least_back (near s first first< d)

pub found_none : {m : Map} {n c first limit : ℕ} {to : Terminus} {w : List ℕ} → Searched (mirror m) n c to limit w → first < n →
    limit < length_to w first → Beyond m c (line first) to limit
found_none {first = first} s first< d = beyond_back ((s.found first first<).far d)
