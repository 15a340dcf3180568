-- The search has gone on from the line at a place of the queue: it is past that place.
use Rattle.model.specs.Map.{Map}
use Rattle.search_cells.specs.Area.{far, several, key_weight, length_to, nearest_free, queued, named, Nearest, line_of}
use Prim.Native.Nat.{ℕ, ◌+◌, ◌/◌, ◌≤◌, ◌<◌}
use mathlib.Core.Path.{◌≡◌, refl, sym, ◌∙◌, ap, subst}
use mathlib.Core.List.{List}
use mathlib.Core.Logic.{◌⊎◌, inl, inr, ⊎_elim, ◌≢◌}
use native.Mathlib.Nat.{eq-or-lt_of_le}
use native.Mathlib.Omega.{arith}
use Rattle.model.specs.Lines.{line_at}
use Rattle.relaxation.specs.Underway.{FreeReached, Waits, Settled, Standing, Task, Underway}
use Rattle.expansion.specs.Steps.{Over, GoesOn, WentAlong, Expanded}
use Rattle.relaxation.specs.declared.Going.{Going}
use Rattle.buffers.proofs.Kept.{kept_within}
use Rattle.buffers.proofs.Cases.{le_or_lt}
use Rattle.search_cells.proofs.Holding.{line_ok}
use Rattle.way_lengths.proofs.Follows.{known}
use Rattle.search_cells.proofs.Turns.{follows_free}
use Rattle.relaxation.proofs.Growing.{free_grew}
use Rattle.relaxation.proofs.Arriving.{equal_or}
use Rattle.expansion.proofs.AtPlace.{class_of, waiting}

-- The line at the place is settled, and with it those whose nearest free line it is: the search is past it.
module _ {q : Task} {n c limit place count end l : ℕ} {w : List ℕ} (g : Underway q n c limit place count end w) (inside : place < end)
    (line_here : line_of (queued w place) ≡ l) (settled_here : Settled q.map c limit w l)
    (settled_with : (a : ℕ) → FreeReached q.map n w a → named (nearest_free w (line_at q.map a).end) ≡ l → Settled q.map c limit w a) where
  later : {a : ℕ} → Waits place end w a → (a ≡ l) ⊎ Waits (place + 1) end w a
  later {a} y =
      ⊎_elim
      (λ e. inl (sym y.3 ∙ ap (λ (i : ℕ). line_of (queued w i)) (sym e) ∙ line_here))
      (λ z. inr (y.0, omega arith, y.2, y.3))
      (eq-or-lt_of_le {n = place} {m = y.0} y.1)

  standing : (a : ℕ) → a < n → length_to w a < far → Standing q.map c limit (place + 1) end w a
  standing a a< z =
      ⊎_elim
      (λ s. inl s)
      (⊎_elim
      (λ y. ⊎_elim (λ e. inl (rw e settled_here)) (λ t. inr (inl t)) (later y))
      (λ y.
      ⊎_elim
      (λ e. inl (settled_with a (record { line = a<; free = y.0; reached = z }) e))
      (λ t. inr (inr (y.0, t)))
      (later y.1)))
      (g.standing a a< z)

  pub past : Underway q n c limit (place + 1) count end w
  past =
      record {
        held = g.held;
        chained = g.chained;
        listing = g.listing;
        small = g.small;
        begun = omega arith;
        room = g.room;
        ordered = λ i j p≤. g.ordered i j (omega arith);
        queue = λ i p≤. g.queue i (omega arith);
        within = g.within;
        real = g.real;
        level = λ a i a< z p≤. g.level a i a< z (omega arith);
        nearest = g.nearest;
        standing = standing;
        backed = g.backed;
      }

-- The line went along the lines that leave its end, where it had something to do.
module _ {q : Task} {n c limit place count end : ℕ} {going : Going} {u w : List ℕ} (o : GoesOn q.map n place u going)
    (k : WentAlong q n c limit place going u w count end) where
  abbrev l : ℕ
  l = going.line

  abbrev m : Map
  m = q.map

  g : Underway q n c limit place count end w
  g = k.went.underway

  line_here : line_of (queued w place) ≡ l
  line_here = ap line_of k.went.head ∙ o.at

  here : (l < n) × (length_to w l ≡ queued w place / key_weight) × (length_to w l < far)
  here = waiting g (place, omega arith, k.went.inside, line_here)

  length_here : length_to w l ≡ going.length
  length_here = here.1 ∙ ap (λ (x : ℕ). x / key_weight) k.went.head ∙ o.found

  -- All that waits is as far.
  ahead : {a : ℕ} → Waits place end w a → length_to w l ≤ length_to w a
  ahead y = let b = g.ordered place y.0 (omega arith) y.1 y.2 in omega (arith, (waiting g y).1, here.1)

  nearest_of : {a : ℕ} → FreeReached m n w a → (0 < nearest_free w (line_at m a).end) × (length_to w (named (nearest_free w (line_at m a).end)) ≤ length_to w a)
  nearest_of {a} f =
      let node = g.nearest _ (line_ok g.held f.line).end in
      ⊎_elim
      (λ z. absurd (let b = node.none (omega arith) a f refl in omega (arith, g.within a f.line f.reached)))
      (λ pos. (pos, node.least pos a f refl))
      (le_or_lt (nearest_free w (line_at m a).end) 0)

  -- A free line that ends at the same node, nearer and settled, settles line `a`.
  settled_by : {a b : ℕ} → a < n → FreeReached m n w b → (line_at m b).end ≡ (line_at m a).end → length_to w b < length_to w a → Settled m c limit w b →
      Settled m c limit w a
  settled_by a< f e less s j t =
      let s' = s j (follows_free g.held f.free e t) in
      let j< : j < n = let z = known t in omega (arith, g.held.line_count) in
      record {
        tight = λ ok near. omega (arith, s'.tight ok (omega arith));
        noted = λ near tie. absurd (let z = g.small in let y = tie.equal in omega (arith, s'.tight (class_of g j j< (omega arith)) (omega arith)));
      }

  over_now : going.note ≡ 0 → Over m n w l
  over_now e =
      let v = o.over e in
      let f = v.reached in
      let own : length_to u l < far = ⊎_elim (λ z. absurd (omega (arith, (k.went.grew.new l here.0 z here.2).1, length_here))) (λ z. z) (le_or_lt far (length_to u l)) in
      record {
        other = v.other;
        reached = free_grew k.went.grew f;
        ends = v.ends;
        nearer = let z = v.nearer in omega (arith, k.went.grew.same _ f.line f.reached, k.went.grew.same l here.0 own);
      }

  settled_over : Over m n w l → Settled m c limit w l
  settled_over v =
      let f = v.reached in
      let less = v.nearer in
      ⊎_elim
      (λ s. settled_by here.0 f v.ends less s)
      (⊎_elim (λ y. absurd (omega (arith, ahead y))) (λ y. absurd (omega (arith, ahead y.1, (nearest_of f).1))))
      (g.standing _ f.line f.reached)

  settled_noted : 0 < going.note → Settled m c limit w l
  settled_noted p j f =
      let b = k.counted p j f in
      record {
        tight = b.tight;
        noted = λ near t.
            let x = b.noted near t in
            (x.0, λ low. ⊎_elim (λ own. x.1 low ∙ own) (λ twin. absurd (omega (arith, x.1 low, twin.0))) (o.notable p));
      }

  settled_here : Settled m c limit w l
  settled_here = ⊎_elim (λ z. settled_over (over_now (omega arith))) settled_noted (le_or_lt going.note 0)

  -- A free line whose nearest free line is line `l` is settled with it.
  module _ {a : ℕ} (f : FreeReached m n w a) (e : named (nearest_free w (line_at m a).end) ≡ l) where
    node : Nearest m limit w (FreeReached m n w) (line_at m a).end (nearest_free w (line_at m a).end)
    node = g.nearest _ (line_ok g.held f.line).end

    first : FreeReached m n w l
    first = subst (FreeReached m n w) e (node.holds (nearest_of f).0)

    ends : (line_at m l).end ≡ (line_at m a).end
    ends = subst (λ (x : ℕ). (line_at m x).end ≡ (line_at m a).end) e (node.ends (nearest_of f).0)

    least : (b : ℕ) → FreeReached m n w b → (line_at m b).end ≡ (line_at m a).end → length_to w l ≤ length_to w b
    least b h z = subst (λ (x : ℕ). length_to w x ≤ length_to w b) e (node.least (nearest_of f).0 b h z)

    alone : 0 < going.note → a ≢ l → length_to w a ≤ length_to w l → going.note ≡ several
    alone p d less =
        let old : length_to u a < far = ⊎_elim (λ z. absurd (omega (arith, (k.went.grew.new a f.line z f.reached).1, length_here))) (λ z. z) (le_or_lt far (length_to u a)) in
        let own : length_to u l < far = ⊎_elim (λ z. absurd (omega (arith, (k.went.grew.new l here.0 z here.2).1, length_here))) (λ z. z) (le_or_lt far (length_to u l)) in
        o.alone p first.free a (record { line = f.line; free = f.free; reached = old }) (sym ends)
        (omega (arith, k.went.grew.same a f.line old, k.went.grew.same l here.0 own)) d

    settled_other : a ≢ l → Settled m c limit w a
    settled_other d j t =
        ⊎_elim
        (λ z. let v = over_now (omega arith) in absurd (let less = v.nearer in omega (arith, least _ v.reached (v.ends ∙ ends))))
        (λ p.
        let b = k.counted p j (follows_free g.held first.free ends t) in
        let far≤ = least a f refl in
        let j< : j < n = let z = known t in omega (arith, g.held.line_count) in
        record {
          tight = λ ok near. omega (arith, b.tight ok (omega arith));
          noted = λ near tie.
              let y = tie.equal in
              let s = g.small in
              let up = b.tight (class_of g j j< (omega arith)) (omega arith) in
              let many = alone p d (omega arith) in
              let x = b.noted near (record { known = let z = here.0 in omega (arith, g.held.line_count); follows = follows_free g.held first.free ends t; equal = omega arith }) in
              (x.0, λ low. absurd (omega (arith, x.1 low)));
        })
        (le_or_lt going.note 0)

    settled_with : Settled m c limit w a
    settled_with = ⊎_elim (λ same. rw same settled_here) settled_other (equal_or a l)

  pub expanded : Expanded q n c limit place u w count end
  expanded =
      record {
        underway = past g k.went.inside line_here settled_here (λ a f e. settled_with f e);
        same = k.went.grew.same;
        kept = kept_within (omega arith) (omega arith) k.went.kept;
      }
