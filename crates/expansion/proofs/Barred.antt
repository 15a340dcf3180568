-- How the search goes on from a line with banned turns: where two others have gone on before it from the same node, the turns banned from these are left.
use Rattle.work_area.specs.Area.{lengths_from, next_from}
use Rattle.search_cells.specs.Area.{Mirrored, far, note_weight, key_weight, length_to, predecessor, nearest_free, queued, Tie, line_of}
use Prim.Native.Nat.{ℕ, ◌+◌, ◌/◌, ◌%◌, ◌≤◌, ◌<◌}
use mathlib.Core.Path.{◌≡◌, refl, sym, ◌∙◌, ap, subst}
use mathlib.Core.Bool.{false}
use mathlib.Core.List.{List}
use mathlib.Core.Logic.{inl, inr, ⊎_elim, ◌≢◌}
use native.Mathlib.Omega.{arith}
use lib.ListN.{get_or}
use Rattle.model.specs.Lines.{line_at, turn_among, Follows}
use Rattle.search_cells.specs.Promises.{Free}
use Rattle.relaxation.specs.Underway.{FreeReached, Counted, Settled, Task, Underway, Grew}
use Rattle.expansion.specs.Steps.{GoesOn, GoneBefore, PairBefore, WalksBegun, Aside, WentAlong, WentAlongBans, Sets, Walked, Expanded}
use Rattle.relaxation.specs.Relaxed.{Told}
use Rattle.relaxation.specs.declared.Going.{Going}
use Rattle.expansion.specs.declared.Pair.{Pair}
use Rattle.buffers.proofs.Kept.{kept_then, kept_within}
use Rattle.buffers.proofs.Cases.{le_or_lt, true_or}
use Rattle.search_cells.proofs.Holding.{held_kept, few, line_ok}
use Rattle.way_lengths.proofs.Follows.{known, follows_unless}
use Rattle.relaxation.proofs.Staying.{key_same, underway_same}
use Rattle.relaxation.proofs.Growing.{grew_then, free_grew, backed_grew, settled_grew}
use Rattle.expansion.proofs.AtPlace.{class_of, waiting}
use Rattle.expansion.proofs.Walking.{counted_then, goes_of, none_or, sets_node, sets_bans}
use Rattle.std.specs.Prelude.{Option, None, Some, MatchOption}
use Rattle.std.specs.Option.{ForSome}
use Rattle.std.proofs.lemmas.Option.{none-some, same_Some, MatchOption-at_none, MatchOption-at_some}
use Rattle.expansion.proofs.Passing.{expanded, past}

-- Marks and the cells of the last lines with banned turns are changed alone.
module _ {q : Task} {n c limit place count end : ℕ} {w v : List ℕ} (g : Underway q n c limit place count end w) (k : Aside q.map n w v) where
  same : (a : ℕ) → a < next_from → get_or v a 0 ≡ get_or w a 0
  same = k.kept.below

  length_same : (l : ℕ) → l < n → length_to v l ≡ length_to w l
  length_same l l< = let n≤ = few g.held in ap (λ (x : ℕ). x / note_weight) (same (lengths_from + l) (omega arith))

  note_same : (l : ℕ) → l < n → predecessor v l ≡ predecessor w l
  note_same l l< = let n≤ = few g.held in ap (λ (x : ℕ). x % note_weight) (same (lengths_from + l) (omega arith))

  grew_kept : Grew q.map n c 0 w v
  grew_kept =
      record {
        same = λ l l< z. length_same l l<;
        notes = λ l l< z. inl (note_same l l<);
        new = λ l l< z y. absurd (omega (arith, length_same l l<));
      }

  held_now : Mirrored v n q.map
  held_now = held_kept (omega arith) k.kept g.held

  head_same : place < end → queued v place ≡ queued w place
  head_same inside = key_same g held_now length_same (λ a a≤ a<. same a a<) k.nexts k.marks grew_kept place inside

  free_back : {l : ℕ} → FreeReached q.map n v l → FreeReached q.map n w l
  free_back f = record { line = f.line; free = f.free; reached = let z = f.reached in omega (arith, length_same _ f.line) }

  pub underway_kept : Underway q n c limit place count end v
  underway_kept =
      underway_same g held_now length_same (λ a a≤ a<. same a a<) k.nexts k.marks grew_kept
      (λ j j< z. rw (note_same j j<) (backed_grew grew_kept g.held.line_count j< z (g.backed j j< z)))

  module _ {going : Going} (inside : place < end) (o : GoesOn q.map n place w going) where
    l< : going.line < n
    l< = (waiting g (place, omega arith, inside, o.at)).0

    pub goes_on_kept : GoesOn q.map n place v going
    goes_on_kept =
        let e = head_same inside in
        let z = length_same going.line l< in
        record {
          at = ap line_of e ∙ o.at;
          found = ap (λ (x : ℕ). x / key_weight) e ∙ o.found;
          chain = o.chain;
          over = λ y.
              let r = o.over y in
              let f = r.reached in
              record { other = r.other; reached = free_grew grew_kept f; ends = r.ends; nearer = let d = r.nearer in omega (arith, length_same _ f.line) };
          notable = λ p. ⊎_elim (λ own. inl own)
              (λ y.
              let t = y.1 in
              inr (
                y.0,
                record {
                  free = t.free;
                  other = t.other;
                  reached = free_grew grew_kept t.reached;
                  ends = t.ends;
                  alike = length_same _ t.reached.line ∙ t.alike ∙ sym z;
                  differ = t.differ;
                },
              ))
              (o.notable p);
          alone = λ p free a f e less d. o.alone p free a (free_back f) e (omega (arith, length_same a f.line)) d;
        }

    gone_kept : {x : ℕ} → GoneBefore q.map n going.line (queued w place) w x → GoneBefore q.map n going.line (queued v place) v x
    gone_kept {x} b =
        record {
          inside = b.inside;
          ends = b.ends;
          barred = b.barred;
          earlier = omega (arith, b.earlier, head_same inside, length_same x b.inside);
        }

    pub pair_kept : {p : Pair} → PairBefore q.map n going.line (queued w place) w p → PairBefore q.map n going.line (queued v place) v p
    pair_kept k = record { one = gone_kept k.one; other = gone_kept k.other; differ = k.differ }

-- A line that has gone on before is settled, and no farther.
module _ {q : Task} {n c limit place count end l x : ℕ} {w : List ℕ} (g : Underway q n c limit place count end w) (inside : place < end)
    (at : line_of (queued w place) ≡ l) (b : GoneBefore q.map n l (queued w place) w x) where
  here : (l < n) × (length_to w l ≡ queued w place / key_weight) × (length_to w l < far)
  here = waiting g (place, omega arith, inside, at)

  pub gone_near : length_to w x ≤ length_to w l
  gone_near = let n≤ = few g.held in let i = b.inside in omega (arith, b.earlier, here.1)

  gone_reached : length_to w x < far
  gone_reached = omega (arith, gone_near, here.2)

  pub gone_settled : Settled q.map c limit w x
  gone_settled =
      ⊎_elim
      (λ s. s)
      (⊎_elim
      (λ y.
      absurd
      (let z = waiting g y in
      let k = g.ordered place y.0 (omega arith) y.1 y.2 in
      let n≤ = few g.held in
      let i = b.inside in
      omega (arith, z.1, b.earlier, y.3)))
      (λ y. absurd (b.barred y.0)))
      (g.standing x b.inside gone_reached)

-- Line `l` went along the turns that are banned from two such lines.
module _ {q : Task} {n c limit place count end count₁ end₁ count₂ end₂ a b : ℕ} {going : Going} {u w v : List ℕ} (g : Underway q n c limit place count end u)
    (inside : place < end) (o : GoesOn q.map n place u going) (barred : Free q.map going.line → ⊥) (some : 0 < going.note)
    (one : GoneBefore q.map n going.line (queued u place) u a) (other : GoneBefore q.map n going.line (queued u place) u b) (differ : a ≢ b)
    (first : WentAlongBans q n c limit place going a u w count₁ end₁) (second : WentAlongBans q n c limit place going b w v count₂ end₂) where
  g₂ : Underway q n c limit place count₂ end₂ v
  g₂ = second.went.underway

  own : going.note ≡ going.line + 1
  own = ⊎_elim (λ e. e) (λ t. absurd (barred t.1.free)) (o.notable some)

  here_on : (going.line < n) × (length_to u going.line ≡ queued u place / key_weight) × (length_to u going.line < far)
  here_on = waiting g (place, omega arith, inside, o.at)

  grew : Grew q.map n c going.length u v
  grew = grew_then first.went.grew second.went.grew

  -- A line that has gone on before, where the search is now.
  module _ {x : ℕ} (y : GoneBefore q.map n going.line (queued u place) u x) where
    settled_now : Settled q.map c limit v x
    settled_now = settled_grew grew g.small g.held.line_count y.inside (gone_reached g inside o.at y) (gone_settled g inside o.at y)

    near_now : length_to v x ≤ length_to v going.line
    near_now =
        omega
        (arith, gone_near g inside o.at y, grew.same _ y.inside (gone_reached g inside o.at y), grew.same _ here_on.0 here_on.2)

    -- By a turn that is not banned from it.
    module _ {j : ℕ} (f : Follows q.map going.line j) (free : turn_among q.map.bans x j ≡ false) where
      counted_now : Counted q.map c limit (x + 1) x j v
      counted_now = settled_now j (follows_unless free y.ends f)

      tie_now : length_to v j ≤ limit → Tie q.map v going.line j → Tie q.map v x j
      tie_now near t =
          let j< : j < n = let z = known f in omega (arith, g.held.line_count) in
          let e = t.equal in
          let s = g.small in
          let d = near_now in
          let b = counted_now.tight (class_of g₂ j j< (omega arith)) (omega arith) in
          record { known = let i = y.inside in omega (arith, g.held.line_count); follows = follows_unless free y.ends f; equal = omega arith }

  covered : {j : ℕ} → Follows q.map going.line j → turn_among q.map.bans a j ≡ false → turn_among q.map.bans b j ≡ false →
      Counted q.map c limit (going.line + 1) going.line j v
  covered f free free' =
      let k = counted_now one f free in
      let k' = counted_now other f free' in
      let d = near_now one in
      record {
        tight = λ ok near. omega (arith, k.tight ok (omega arith));
        noted = λ near t.
            let x = k.noted near (tie_now one f free near t) in
            let x' = k'.noted near (tie_now other f free' near t) in
            (x.0, λ low. absurd (differ (omega (arith, x.1 low, x'.1 low))));
      }

  settled_barred : Settled q.map c limit v going.line
  settled_barred j f =
      let j< : j < n = let z = known f in omega (arith, g.held.line_count) in
      ⊎_elim
      (λ banned. rw (← own) (counted_then first.went.underway first.goes second.went j< (first.counted j banned f)))
      (λ free. ⊎_elim (λ banned. rw (← own) (second.counted j banned f)) (λ free'. covered f free free') (true_or (turn_among q.map.bans b j)))
      (true_or (turn_among q.map.bans a j))

  pub expanded_barred : Expanded q n c limit place u v count₂ end₂
  expanded_barred =
      let at-now : line_of (queued v place) ≡ going.line = second.goes.at in
      record {
        underway = past g₂ second.went.inside at-now settled_barred
            (λ x f e.
            let node = g₂.nearest _ (line_ok g₂.held f.line).end in
            ⊎_elim
            (λ z. absurd (let r = node.none (omega arith) x f refl in omega (arith, g₂.within x f.line f.reached)))
            (λ pos. absurd (barred (subst (λ (y : ℕ). FreeReached q.map n v y) e (node.holds pos)).free))
            (le_or_lt (nearest_free v (line_at q.map x).end) 0));
        same = grew.same;
        kept = kept_within (omega arith) (omega arith) (kept_then first.went.kept second.went.kept);
      }

-- What was changed of those cells before is changed too.
pub expanded_kept : {q : Task} {n c limit place count end count' end' : ℕ} {u w v : List ℕ} → Underway q n c limit place count end u → Aside q.map n u w →
    Expanded q n c limit place w v count' end' → Expanded q n c limit place u v count' end'
expanded_kept g k e =
    record {
      underway = e.underway;
      same = λ l l< z. let y = length_same g k l l< in e.same l l< (omega arith) ∙ y;
      kept = kept_then (kept_within (omega arith) (omega arith) k.kept) e.kept;
    }

-- A line is ready for its walks: with a pair of lines that have gone on before it, or without.
pub record Ready (q : Task) (n c limit place : ℕ) (going : Going) (pair : Option Pair) (u : List ℕ) (count end : ℕ) : Type 0 where
  pub underway : Underway q n c limit place count end u
  pub inside : place < end
  pub on : GoesOn q.map n place u going
  pub told : 0 < going.note → Told q.map n u going
  pub some : ForSome pair (λ p. 0 < going.note)
  pub barred : ForSome pair (λ p. Free q.map going.line → ⊥)
  pub before : ForSome pair (λ p. PairBefore q.map n going.line (queued u place) u p)

pub ready : {q : Task} {n c limit place count end : ℕ} {going : Going} {pair : Option Pair} {w u : List ℕ} → Underway q n c limit place count end w →
    place < end → GoesOn q.map n place w going → WalksBegun q.map n place going w u pair → Ready q n c limit place going pair u count end
ready g inside o p =
    record {
      underway = underway_kept g p.aside;
      inside = inside;
      on = goes_on_kept g p.aside inside o;
      told = p.told;
      some = p.some;
      barred = p.barred;
      before = λ x e. pair_kept g p.aside inside o (p.before x e);
    }

-- Both walks of a pair.
pub record Both (q : Task) (n c limit place : ℕ) (going : Going) (a b : ℕ) (u w : List ℕ) (count end : ℕ) : Type 0 where
  pub between : List ℕ
  pub lines : ℕ
  pub last : ℕ
  pub first : WentAlongBans q n c limit place going a u between lines last
  pub second : WentAlongBans q n c limit place going b between w count end

-- The line has gone `i` walks.
pub record Walks (q : Task) (n c limit place : ℕ) (going : Going) (pair : Option Pair) (u w : List ℕ) (lines last i count end : ℕ) : Type 0 where
  pub start : i ≡ 0 → (w ≡ u) × (count ≡ lines) × (end ≡ last)
  pub node : i ≡ 1 → pair ≡ None → WentAlong q n c limit place going u w count end
  pub bans : i ≡ 1 → ForSome pair (λ p. WentAlongBans q n c limit place going p.one u w count end)
  pub both : i ≡ 2 → ForSome pair (λ p. Both q n c limit place going p.one p.other u w count end)

-- How many walks a line goes, and along whose banned turns walk `i` is.
abbrev pub Total : Option Pair → ℕ → Type 0
Total pair total = MatchOption pair (total ≡ 1) (λ p. total ≡ 2)

abbrev pub AlongOf : Option Pair → ℕ → Option ℕ → Type 0
AlongOf pair i o = MatchOption pair (o ≡ None) (λ p. (i ≡ 0 → o ≡ Some p.one) × (0 < i → o ≡ Some p.other))

none_total : (pair : Option Pair) (total : ℕ) → Total pair total → pair ≡ None → total ≡ 1
none_total pair total many e = MatchOption-at_none (total ≡ 1) (λ p. total ≡ 2) e many

some_total : (pair : Option Pair) (total : ℕ) → Total pair total → (p : Pair) → pair ≡ Some p → total ≡ 2
some_total pair total many p e = MatchOption-at_some (total ≡ 1) (λ p. total ≡ 2) p e many

none_along : (pair : Option Pair) (i : ℕ) (o : Option ℕ) → AlongOf pair i o → pair ≡ None → o ≡ None
none_along pair i o along e = MatchOption-at_none (o ≡ None) (λ (p : Pair). (i ≡ 0 → o ≡ Some p.one) × (0 < i → o ≡ Some p.other)) e along

some_along : (pair : Option Pair) (i : ℕ) (o : Option ℕ) → AlongOf pair i o → (p : Pair) → pair ≡ Some p → (i ≡ 0 → o ≡ Some p.one) × (0 < i → o ≡ Some p.other)
some_along pair i o along p e = MatchOption-at_some (o ≡ None) (λ (p : Pair). (i ≡ 0 → o ≡ Some p.one) × (0 < i → o ≡ Some p.other)) p e along

module _ {q : Task} {n c limit place lines last : ℕ} {going : Going} {pair : Option Pair} {u : List ℕ} (r : Ready q n c limit place going pair u lines last) where
  -- Walk `i` of so many.
  module _ {i total count end : ℕ} {w : List ℕ} (k : Walks q n c limit place going pair u w lines last i count end) (many : Total pair total) (i< : i < total) where
    more : 0 < i → (i ≡ 1) × ((p : Pair) × (pair ≡ Some p))
    more pos =
        none_or pair
        (λ e. absurd (omega (arith, none_total pair total many e)))
        (λ p e. (omega (arith, some_total pair total many p e), (p, e)))

    pub walks_underway : Underway q n c limit place count end w
    walks_underway =
        ⊎_elim
        (λ z. let s = k.start (omega arith) in rw (s.0, s.1, s.2) r.underway)
        (λ pos. let y = more pos in (k.bans y.0 y.1.0 y.1.1).went.underway)
        (le_or_lt i 0)

    -- Along the turns that are banned from `o`, or along none.
    module _ (o : Option ℕ) (along : AlongOf pair i o) where
      pub walks_in : ForSome o (λ x. x < n)
      walks_in x is =
          none_or pair
          (λ e. absurd (none-some x (sym (none_along pair i o along e) ∙ is)))
          (λ p e.
          let a = some_along pair i o along p e in
          let b = r.before p e in
          ⊎_elim
          (λ y. subst (λ (l : ℕ). l < n) (same_Some p.one x (sym (a.0 (omega arith)) ∙ is)) b.one.inside)
          (λ y. subst (λ (l : ℕ). l < n) (same_Some p.other x (sym (a.1 y) ∙ is)) b.other.inside)
          (le_or_lt i 0))

      first_sets : i ≡ 0 → Sets q.map n place last going o u
      first_sets z =
          none_or pair
          (λ e. rw (none_along pair i o along e) (sets_node r.inside r.told r.on))
          (λ p e.
          let some = r.some p e in
          rw ((some_along pair i o along p e).0 z) (sets_bans (goes_of r.inside some (r.told some) r.on) (r.before p e).one.ends))

      later_sets : (pos : 0 < i) → Sets q.map n place end going o w
      later_sets pos =
          let y = more pos in
          let p = y.1.0 in
          rw ((some_along pair i o along p y.1.1).1 pos) (sets_bans (k.bans y.0 p y.1.1).goes (r.before p y.1.1).other.ends)

      pub walks_sets : Sets q.map n place end going o w
      walks_sets = ⊎_elim (λ z. let s = k.start (omega arith) in rw (s.0, s.2) (first_sets (omega arith))) later_sets (le_or_lt i 0)

      pub walks_step : {v : List ℕ} {count' end' : ℕ} → Walked q n c limit place going o w v count' end' →
          Walks q n c limit place going pair u v lines last (i + 1) count' end'
      walks_step {v} {count'} {end'} p =
          record {
            start = λ e. absurd (omega arith);
            node = λ e z.
                let first : i ≡ 0 = omega arith in
                subst (λ (x : List ℕ). WentAlong q n c limit place going x v count' end') (k.start first).0 (p.node (none_along pair i o along z));
            bans = λ e x z.
                let first : i ≡ 0 = omega arith in
                subst (λ (y : List ℕ). WentAlongBans q n c limit place going x.one y v count' end') (k.start first).0
                (p.bans x.one ((some_along pair i o along x z).0 first));
            both = λ e x z.
                let second : 0 < i = omega arith in
                record {
                  between = w;
                  lines = _;
                  last = _;
                  first = k.bans (omega arith) x z;
                  second = p.bans x.other ((some_along pair i o along x z).1 second);
                };
          }

  pub walks_end : {i total count end : ℕ} {w : List ℕ} → Walks q n c limit place going pair u w lines last i count end →
      Total pair total → i ≡ total → Expanded q n c limit place u w count end
  walks_end {i} {total} k many all =
      none_or pair
      (λ e. expanded r.on (k.node (omega (arith, none_total pair total many e)) e))
      (λ p e.
      let b = k.both (omega (arith, some_total pair total many p e)) p e in
      let t = r.before p e in
      expanded_barred r.underway r.inside r.on (r.barred p e) (r.some p e) t.one t.other t.differ b.first b.second)
