-- The search goes on from a line along a list: along all lines that leave its end, or along the turns that are banned from another line.
use Rattle.work_area.specs.Area.{ban_chain, ban_second, ban_earlier}
use Rattle.banned_turns.proofs.Chains.{WalkAt, walk_start, walk_on, walk_less, walk_end}
use lib.ListN.{get_or}
use Rattle.model.specs.Map.{greatest_line_count, greatest_ban_count, Map}
use Rattle.search_cells.specs.Area.{Mirrored, far, key_weight, latest, length_to, line_of}
use Prim.Native.Nat.{ℕ, ◌-◌, ◌/◌, ◌≤◌, ◌<◌}
use mathlib.Core.Path.{◌≡◌, refl, sym, ◌∙◌, ap, subst}
use mathlib.Core.List.{List}
use mathlib.Core.Logic.{⊎_elim, ◌≢◌}
use Rattle.std.specs.Prelude.{Option, None, Some}
use Rattle.std.specs.Option.{ForSome}
use Rattle.std.proofs.lemmas.Option.{none-some, same_Some}
use native.Mathlib.Omega.{arith}
use Rattle.model.specs.Lines.{line_at, Follows}
use Rattle.relaxation.specs.Underway.{Counted, Task, Underway}
use Rattle.relaxation.specs.Relaxed.{Goes, Relaxed, Told}
use Rattle.expansion.specs.Steps.{GoesOn, Went, WentAlong, WentAlongBans, Starts, WalkLine, WalkNext, Sets, Walked}
use Rattle.relaxation.specs.declared.Going.{Going}
use Rattle.buffers.proofs.Kept.{kept_none, kept_then}
use Rattle.buffers.proofs.Cases.{le_or_lt}
use Rattle.search_cells.proofs.Holding.{few}
use Rattle.way_lengths.proofs.Follows.{known, meets}
use Rattle.search_cells.proofs.Leaving.{OnList, list_start, list_none, list_less, list_next, list_passed}
use Rattle.relaxation.proofs.Growing.{grew_none, grew_then, counted_grew}
use Rattle.relaxation.proofs.Arriving.{equal_or}
use Rattle.relaxation.proofs.Relaxing.{notable_grew}
use Rattle.expansion.proofs.AtPlace.{waiting}
use Rattle.search_cells.proofs.Turns.{ban_in, second_in, second_starts}

-- The line goes on to one line after another.
module _ {q : Task} {n c limit place : ℕ} {going : Going} where
  pub went_none : {count end : ℕ} {w : List ℕ} → Underway q n c limit place count end w → place < end → Went q n c limit place going w w count end
  went_none g inside = record { underway = g; grew = grew_none; kept = kept_none; inside = inside; head = refl; marks = λ k k<. refl }

  pub went_then : {count end count' end' : ℕ} {u w v : List ℕ} → Went q n c limit place going u w count end → Went q n c limit place going w v count' end' →
      Went q n c limit place going u v count' end'
  went_then k p =
      record { underway = p.underway; grew = grew_then k.grew p.grew; kept = kept_then k.kept p.kept; inside = p.inside; head = p.head ∙ k.head; marks = λ l l<. p.marks l l< ∙ k.marks l l< }

  pub went_to : {j count end : ℕ} {w v : List ℕ} → Relaxed q n c limit place going j w v count end → Went q n c limit place going w v count end
  went_to p = record { underway = p.underway; grew = p.grew; kept = p.kept; inside = p.inside; head = p.head; marks = p.marks }

  module _ {count end count' end' : ℕ} {w v : List ℕ} (g : Underway q n c limit place count end w) (goes : Goes q.map n place end w going)
      (p : Went q n c limit place going w v count' end') where
    head_line : (going.line < n) × (length_to w going.line < far)
    head_line = let z = waiting g (place, omega arith, goes.inside, goes.at) in (z.0, z.2)

    pub goes_then : Goes q.map n place end' v going
    goes_then =
        record {
          inside = p.inside;
          at = ap line_of p.head ∙ goes.at;
          found = ap (λ (x : ℕ). x / key_weight) p.head ∙ goes.found;
          chain = goes.chain;
          notable = notable_grew p.grew head_line.0 head_line.1 goes.notable;
          told = λ some j j< banned. p.marks j j< ∙ goes.told some j j< banned;
        }

    -- What is taken into account stays so.
    pub counted_then : {note j : ℕ} → j < n → Counted q.map c limit note going.line j w → Counted q.map c limit note going.line j v
    counted_then j< k = counted_grew p.grew g.small g.held.line_count head_line.0 head_line.1 j< k

    -- And so at each line of those at which it was, and at line `i`.
    pub counted_more : {i j : ℕ} → (Follows q.map going.line i → Counted q.map c limit going.note going.line i v) →
        (j ≢ i → Counted q.map c limit going.note going.line j w) → Follows q.map going.line j → Counted q.map c limit going.note going.line j v
    counted_more {i} {j} here old f =
        ⊎_elim
        (λ e. subst (λ (k : ℕ). Counted q.map c limit going.note going.line k v) (sym e) (here (subst (Follows q.map going.line) e f)))
        (λ d. counted_then (let z = known f in omega (arith, g.held.line_count)) (old d))
        (equal_or j i)

-- Where it has something to do.
pub goes_of : {m : Map} {n place end : ℕ} {w : List ℕ} {going : Going} → place < end → 0 < going.note → Told m n w going → GoesOn m n place w going → Goes m n place end w going
goes_of inside p told o = record { inside = inside; at = o.at; found = o.found; chain = o.chain; notable = o.notable p; told = told }

-- The walk along the adjacency list of the node where the line ends: it is taken into account at those from `at` on.
pub record Along (q : Task) (n c limit place : ℕ) (going : Going) (u w : List ℕ) (at count end : ℕ) : Type 0 where
  pub went : Went q n c limit place going u w count end
  pub goes : 0 < going.note → Goes q.map n place end w going
  pub counted : 0 < going.note → (j : ℕ) → at ≤ j → Follows q.map going.line j → Counted q.map c limit going.note going.line j w
  pub idle : going.note ≡ 0 → at ≡ 0
  pub list : OnList q.map n (line_at q.map going.line).end at

module _ {q : Task} {n c limit place : ℕ} {going : Going} {u : List ℕ} where
  along_start : {at count end : ℕ} → Underway q n c limit place count end u → place < end → (0 < going.note → Told q.map n u going) → GoesOn q.map n place u going →
      (0 < going.note → at ≡ latest q.map (line_at q.map going.line).end n) → (going.note ≡ 0 → at ≡ 0) → Along q n c limit place going u u at count end
  along_start {at} g inside told o start still =
      record {
        went = went_none g inside;
        goes = λ p. goes_of inside p (told p) o;
        counted = λ p j at≤ f.
            let to = known f in
            let h = g.held in
            absurd (list_none q.map n _ (start p) j (omega arith) (meets f) at≤);
        idle = still;
        list = ⊎_elim
            (λ none. let z = still (omega arith) in record { within = omega arith; joined = λ some. absurd (omega arith) })
            (λ p. list_start q.map n _ (start p))
            (le_or_lt going.note 0);
      }

  along_some : {w : List ℕ} {at count end : ℕ} → Along q n c limit place going u w at count end → 0 < at → 0 < going.note
  along_some k pos = ⊎_elim (λ z. absurd (omega (arith, k.idle (omega arith)))) (λ z. z) (le_or_lt going.note 0)

  along_goes : {w : List ℕ} {at count end : ℕ} → Along q n c limit place going u w at count end → 0 < at → Goes q.map n place end w going
  along_goes k pos = k.goes (along_some k pos)

  along_step : {w v : List ℕ} {at next count end count' end' : ℕ} → Along q n c limit place going u w at count end → 0 < at →
      Relaxed q n c limit place going (at - 1) w v count' end' → next ≡ latest q.map (line_at q.map (at - 1)).start (at - 1) →
      Along q n c limit place going u v next count' end'
  along_step {w} {v} {at} {next} k pos p e =
      let g = k.went.underway in
      let goes = along_goes k pos in
      let all = g.held.line_count in
      record {
        went = went_then k.went (went_to p);
        goes = λ z. goes_then g goes (went_to p);
        counted = λ z j next≤ f.
            list_passed k.list pos e (λ i. Follows q.map going.line i → Counted q.map c limit going.note going.line i v)
            (λ i i< there at≤ f. counted_then g goes (went_to p) i< (k.counted z i at≤ f)) p.here
            j (let to = known f in omega arith) (meets f) next≤ f;
        idle = λ z. absurd (omega (arith, along_some k pos));
        list = list_next k.list pos e;
      }

  along_end : {w : List ℕ} {at count end : ℕ} → at ≤ 0 → Along q n c limit place going u w at count end → WentAlong q n c limit place going u w count end
  along_end z k = record { went = k.went; counted = λ p j f. k.counted p j (omega arith) f }

-- A walk along a chain of banned turns: the line is taken into account at those that are passed.
pub record AlongBans (q : Task) (n c limit place : ℕ) (going : Going) (other : ℕ) (u w : List ℕ) (x count end : ℕ) : Type 0 where
  pub went : Went q n c limit place going u w count end
  pub goes : Goes q.map n place end w going
  pub walk : WalkAt q.map.bans other greatest_line_count x
  pub counted : (j : ℕ) → (WalkAt q.map.bans other j x → ⊥) → Follows q.map going.line j → Counted q.map c limit going.note going.line j w

module _ {q : Task} {n c limit place other : ℕ} {going : Going} {u : List ℕ} where
  bans_start : {x count end : ℕ} → Underway q n c limit place count end u → Goes q.map n place end u going → x ≡ ban_chain q.map.bans other →
      AlongBans q n c limit place going other u u x count end
  bans_start {x} g o e =
      record {
        went = went_none g o.inside;
        goes = o;
        walk = walk_start g.held.bans_held other greatest_line_count x e;
        counted = λ j d f. absurd (d (walk_start g.held.bans_held other j x e));
      }

  module _ {w : List ℕ} {x count end : ℕ} (k : AlongBans q n c limit place going other u w x count end) (pos : 0 < x) where
    held : Mirrored w n q.map
    held = k.went.underway.held

    earlier_kept : {v : List ℕ} {j count' end' : ℕ} → Relaxed q n c limit place going j w v count' end' → get_or v (ban_earlier (x - 1)) 0 < x
    earlier_kept p =
        let b = ban_in held k.walk pos in
        omega (arith, p.kept.above (ban_earlier (x - 1)) (omega arith), walk_less k.went.underway.held.bans_held other greatest_line_count x pos k.walk)

    bans_step : {v : List ℕ} {j next count' end' : ℕ} → j ≡ get_or w (ban_second (x - 1)) 0 → next ≡ get_or v (ban_earlier (x - 1)) 0 →
        Relaxed q n c limit place going j w v count' end' → AlongBans q n c limit place going other u v next count' end'
    bans_step {v} {j} {next} here e p =
        let h = k.went.underway.held in
        let bans = h.bans_held in
        let b = ban_in held k.walk pos in
        let same : get_or v (ban_earlier (x - 1)) 0 ≡ get_or w (ban_earlier (x - 1)) 0 = p.kept.above (ban_earlier (x - 1)) (omega arith) in
        let z : next ≡ get_or w (ban_earlier (x - 1)) 0 = e ∙ same in
        record {
          went = went_then k.went (went_to p);
          goes = goes_then k.went.underway k.goes (went_to p);
          walk = rw z (walk_on bans other greatest_line_count x pos k.walk (λ y. omega (arith, second_in held k.walk pos, few h)));
          counted = λ i d f.
              counted_more k.went.underway k.goes (went_to p) p.here
              (λ o. k.counted i (λ y. d (rw z (walk_on bans other i x pos y (λ t. o (sym t ∙ sym here))))) f) f;
        }

  bans_end : {w : List ℕ} {x count end : ℕ} → x ≤ 0 → AlongBans q n c limit place going other u w x count end →
      WentAlongBans q n c limit place going other u w count end
  bans_end {x = x} z k =
      let bans = k.went.underway.held.bans_held in
      record {
        went = k.went;
        goes = k.goes;
        counted = λ j banned f. k.counted j (λ y. let e = walk_end bans other j x z y in let t : ◌≡◌ {A = ℕ} 0 1 = cc in omega arith) f;
      }

-- There is none, or one.
pub none_or : {T A : Type 0} (o : Option T) → (o ≡ None → A) → ((x : T) → o ≡ Some x → A) → A
none_or None none some = none refl
none_or (Some x) none some = some x refl

-- What a walk of each kind needs.
pub sets_node : {m : Map} {n place end : ℕ} {going : Going} {w : List ℕ} → place < end → (0 < going.note → Told m n w going) → GoesOn m n place w going →
    Sets m n place end going None w
sets_node inside told o =
    record { inside = inside; on = λ e. o; goes = λ x e. absurd (none-some x e); told = told; ends = λ x e. absurd (none-some x e) }

pub sets_bans : {m : Map} {n place end other : ℕ} {going : Going} {w : List ℕ} → Goes m n place end w going →
    (line_at m other).end ≡ (line_at m going.line).end → Sets m n place end going (Some other) w
sets_bans {m} {other = other} {going = going} o ends =
    record {
      inside = o.inside;
      on = λ e. absurd (none-some other (sym e));
      goes = λ x e. o;
      told = λ p. o.told;
      ends = λ x e. subst (λ (k : ℕ). (line_at m k).end ≡ (line_at m going.line).end) (same_Some other x e) ends;
    }

-- The line that goes on is one.
pub sets_line : {q : Task} {n c limit place count end : ℕ} {other : Option ℕ} {w : List ℕ} {going : Going} → Underway q n c limit place count end w →
    Sets q.map n place end going other w → going.line < n
sets_line {other = other} g s =
    none_or other
    (λ e. (waiting g (_, omega arith, s.inside, (s.on e).at)).0)
    (λ o e. (waiting g (_, omega arith, s.inside, (s.goes o e).at)).0)

-- A walk of either kind.
pub record Walking (q : Task) (n c limit place : ℕ) (going : Going) (other : Option ℕ) (u w : List ℕ) (at count end : ℕ) : Type 0 where
  pub node : other ≡ None → Along q n c limit place going u w at count end
  pub bans : ForSome other (λ o. AlongBans q n c limit place going o u w at count end)

module _ {q : Task} {n c limit place : ℕ} {other : Option ℕ} {going : Going} {u : List ℕ} where
  pub walking_start : {at count end : ℕ} → Underway q n c limit place count end u → Sets q.map n place end going other u →
      Starts q.map n going.line going.note other at → Walking q n c limit place going other u u at count end
  walking_start g s a =
      record {
        node = λ e. along_start g s.inside s.told (s.on e) (a.goes e) (a.still e);
        bans = λ o e. bans_start g (s.goes o e) (a.bans o e);
      }

  module _ {w : List ℕ} {at count end : ℕ} (k : Walking q n c limit place going other u w at count end) where
    -- Whichever it is.
    either : {A : Type 0} → (other ≡ None → Along q n c limit place going u w at count end → A) →
        ((o : ℕ) → other ≡ Some o → AlongBans q n c limit place going o u w at count end → A) → A
    either {A} node bans = none_or other (λ e. node e (k.node e)) (λ o e. bans o e (k.bans o e))

    pub walking_went : Went q n c limit place going u w count end
    walking_went = either (λ e a. a.went) (λ o e a. a.went)

    pub walking_within : other ≡ None → at ≤ n
    walking_within e = (k.node e).list.within

    pub walking_end : at ≤ 0 → Walked q n c limit place going other u w count end
    walking_end z = record { node = λ e. along_end z (k.node e); bans = λ o e. bans_end z (k.bans o e) }

    module _ (pos : 0 < at) where
      pub walking_few : ForSome other (λ o. at ≤ greatest_ban_count)
      walking_few o e = let a = k.bans o e in ban_in a.went.underway.held a.walk pos

      pub walking_goes : Goes q.map n place end w going
      walking_goes = either (λ e a. along_goes a pos) (λ o e a. a.goes)

      module _ {j : ℕ} (here : WalkLine w other at j) where
        pub walking_line : j < n
        walking_line =
            either
            (λ e a. let i = a.list.within in omega (arith, here.node e))
            (λ o e a. rw (here.bans o e) (second_in a.went.underway.held a.walk pos))

        pub walking_meets : ForSome other (λ o. (line_at q.map o).end ≡ (line_at q.map going.line).end) →
            (line_at q.map j).start ≡ (line_at q.map going.line).end
        walking_meets ends =
            either
            (λ e a. rw (here.node e) (a.list.joined pos))
            (λ o e a. rw (here.bans o e) (second_starts a.went.underway.held a.walk pos) ∙ ends o e)

        module _ {v : List ℕ} {next count' end' : ℕ} (p : Relaxed q n c limit place going j w v count' end') (then : WalkNext q.map v other at next) where
          pub walking_less : next < at
          walking_less =
              either
              (λ e a. list_less a.list pos (then.node e))
              (λ o e a. omega (arith, then.bans o e, earlier_kept a pos p))

          pub walking_step : Walking q n c limit place going other u v next count' end'
          walking_step =
              record {
                node = λ e. along_step (k.node e) pos (subst (λ (i : ℕ). Relaxed q n c limit place going i w v count' end') (here.node e) p) (then.node e);
                bans = λ o e. bans_step (k.bans o e) pos (here.bans o e) (then.bans o e) p;
              }
