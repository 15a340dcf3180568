-- How a line that the search goes on from is taken into account at one line that can follow it.
use Rattle.work_area.specs.Area.{line_place, line_length, line_frc, lengths_from, queue_from, next_from}
use Rattle.model.specs.Map.{greatest_line_count, Map}
use Rattle.search_cells.specs.Area.{far, several, note_weight, list_weight, mark_weight, next_leaving, listed, marked, length_to, predecessor, queued, Tie, line_of, key_of}
use Prim.Native.Nat.{ℕ, ◌+◌, ◌-◌, ◌/◌, ◌%◌, ◌≤◌, ◌<◌}
use mathlib.Core.Path.{◌≡◌, refl, sym, ◌∙◌, ap, subst}
use mathlib.Core.Bool.{true, false}
use mathlib.Core.List.{List, [], ◌∷◌, ◌++◌}
use mathlib.Core.Logic.{◌⊎◌, inl, inr, ⊎_elim, ◌≢◌}
use native.Mathlib.Omega.{arith}
use native.Mathlib.Decide.{ℕ_discrete}
use lib.ListN.{get_or}
use Rattle.model.specs.Lines.{line_at, turn_among, Follows}
use Rattle.relaxation.specs.Underway.{Backed, Counted, Queued, Task, Underway, Grew}
use Rattle.relaxation.specs.Relaxed.{Noted, TieNoted, Arrived, Notable, Goes, Relaxed}
use Rattle.search_cells.specs.Promises.{Inserted}
use Rattle.relaxation.specs.declared.Going.{Going}
use Rattle.buffers.proofs.Kept.{kept_none, kept_within}
use Rattle.buffers.proofs.Cases.{le_or_lt, here_or, true_or}
use Rattle.search_cells.proofs.Holding.{held_kept, few, line_ok}
use Rattle.way_lengths.proofs.Plain.{way_more, total_more}
use Rattle.way_lengths.proofs.Follows.{meets, barred}
use Rattle.search_cells.proofs.Turns.{follows_free}
use Rattle.banned_turns.proofs.Chains.{walk_start, walk_end}
use Rattle.search_cells.proofs.Reached.{count_le, room_left}
use Rattle.relaxation.proofs.Growing.{grew_none, free_grew, backed_grew}
use Rattle.relaxation.proofs.Queueing.{waits_same, ordered_same, queued_in, waits_more, waits_new, ordered_more}
use Rattle.relaxation.proofs.Staying.{key_same, underway_same}
use Rattle.relaxation.proofs.Arriving.{Entered, Levelled, queue_same, enter, enter_unsent, grew, entered, found_now, noted_now, marks_now}
use Rattle.search_cells.proofs.Keeping.{marked_same}

-- What is noted.
noted_cases : {x note y : ℕ} → Noted x note y → ((x ≡ 0) × (y ≡ note)) ⊎ (((x ≡ note) × (y ≡ note)) ⊎ ((y ≡ several) × (0 < x) × (x ≢ note)))
noted_cases {x} {note} {y} n = first (ℕ_discrete x 0) (ℕ_discrete x note)
  where
    first : Dec (x ≡ 0) → Dec (x ≡ note) → ((x ≡ 0) × (y ≡ note)) ⊎ (((x ≡ note) × (y ≡ note)) ⊎ ((y ≡ several) × (0 < x) × (x ≢ note)))
    first (yes a) b = inl (a, n.first a)
    first (no a) (yes b) = inr (inl (b, n.same b))
    first (no a) (no b) = let p : 0 < x = omega (arith, a) in inr (inr (n.again p b, p, b))

pub notable_some : {m : Map} {n l note : ℕ} {w : List ℕ} → Notable m n w l note → 0 < note
notable_some o = ⊎_elim (λ e. omega arith) (λ e. omega (arith, e.0)) o

pub notable_low : {m : Map} {n l note : ℕ} {w : List ℕ} → l < greatest_line_count → Notable m n w l note → note ≤ several
notable_low l< o = ⊎_elim (λ e. omega arith) (λ e. omega (arith, e.0)) o

pub notable_grew : {m : Map} {n c d l note : ℕ} {w v : List ℕ} → Grew m n c d w v → l < n → length_to w l < far → Notable m n w l note → Notable m n v l note
notable_grew r l< z o =
    ⊎_elim
    (λ e. inl e)
    (λ e.
    let t = e.1 in
    inr (
      e.0,
      record {
        free = t.free;
        other = t.other;
        reached = free_grew r t.reached;
        ends = t.ends;
        alike = r.same _ t.reached.line t.reached.reached ∙ t.alike ∙ sym (r.same _ l< z);
        differ = t.differ;
      },
    ))
    o

-- Line `l` at place `place` of the queue goes on to line `j`.
module _ {q : Task} {n c limit place count end j : ℕ} {w : List ℕ} {going : Going} (g : Underway q n c limit place count end w)
    (o : Goes q.map n place end w going) (j< : j < n) where
  abbrev l : ℕ
  l = going.line

  abbrev m : Map
  m = q.map

  at_place : Queued n w (queued w place)
  at_place = g.queue place (omega arith) o.inside

  l< : l < n
  l< = omega (arith, o.at, at_place.line)

  pub here : length_to w l ≡ going.length
  here = ap (length_to w) (sym o.at) ∙ at_place.found ∙ o.found

  pub reached : length_to w l < far
  reached = omega (arith, here, o.found, at_place.reached)

  level : (k : ℕ) → k < n → length_to w k < far → length_to w k ≤ going.length + (line_at m k).length
  level k k< z = omega (arith, o.found, g.level k place k< z (omega arith) o.inside)

  pub length_at : get_or w (line_place j + line_length) 0 ≡ (line_at m j).length
  length_at = g.held.line_held j 2 j< (omega arith)

  class_at : get_or w (line_place j + line_frc) 0 ≡ (line_at m j).frc
  class_at = g.held.line_held j 3 j< (omega arith)

  pub going_in : going.line < n
  going_in = l<

  -- The key of line `j` by way of line `l` stands behind that of line `l`.
  pub key_behind : {x : ℕ} → x ≡ going.length + get_or w (line_place j + line_length) 0 → queued w place ≤ key_of x j
  key_behind e = let some = (line_ok g.held j<).some in omega (arith, length_at, o.found)

  -- Line `j` is marked by line `l`: so it cannot follow.
  pub marked_apart : marked w j ≡ l → Follows m l j → ⊥
  marked_apart is f =
      ⊎_elim
      (λ own.
      let e : l ≡ j = sym is ∙ own in
      (line_ok g.held j<).differ (meets f ∙ ap (λ (k : ℕ). (line_at m k).end) e))
      (λ banned. barred (rw is at banned) f)
      (g.chained.marks j j<)

  -- It is not: so the turn is not banned.
  pub unmarked : (marked w j ≡ l → ⊥) → turn_among m.bans l j ≡ false
  unmarked d =
      ⊎_elim
      (λ none. walk_end g.held.bans_held l j going.chain none (walk_start g.held.bans_held l j going.chain o.chain))
      (λ some. ⊎_elim (λ banned. absurd (d (o.told some j j< banned))) (λ free. free) (true_or (turn_among m.bans l j)))
      (le_or_lt going.chain 0)

  relaxed_none : (Follows m l j → Counted m c limit going.note l j w) → Relaxed q n c limit place going j w w count end
  relaxed_none counted =
      record { underway = g; grew = grew_none; kept = kept_none; here = counted; head = refl; marks = λ k k<. refl; inside = o.inside }

  pub apart : (Follows m l j → ⊥) → Relaxed q n c limit place going j w w count end
  apart d = relaxed_none (λ f. absurd (d f))

  -- A length that is found is at most that by way of line `l`.
  pub not_more : length_to w j < far → length_to w j ≤ going.length + get_or w (line_place j + line_length) 0
  not_more z = omega (arith, level j j< z, length_at)

  pub nearer : length_to w j < far → length_to w j ≢ going.length + get_or w (line_place j + line_length) 0 → Relaxed q n c limit place going j w w count end
  nearer z d =
      relaxed_none
      (λ f.
      let b = level j j< z in
      record {
        tight = λ ok y. omega (arith, here);
        noted = λ y t. absurd (d (omega (arith, length_at, t.equal, here)));
      })

  pub shut : far ≤ length_to w j → c < get_or w (line_place j + line_frc) 0 → Relaxed q n c limit place going j w w count end
  shut z x =
      relaxed_none (λ f. record { tight = λ ok y. absurd (omega (arith, class_at)); noted = λ y t. absurd (let s = g.small in omega arith) })

  pub beyond : far ≤ length_to w j → limit < going.length + get_or w (line_place j + line_length) 0 → Relaxed q n c limit place going j w w count end
  beyond z x =
      relaxed_none
      (λ f. record { tight = λ ok y. absurd (omega (arith, length_at, here)); noted = λ y t. absurd (let s = g.small in omega arith) })

  -- What a note of line `l` at line `j` rests on.
  note_backed : {v : List ℕ} → Grew m n c going.length w v → Follows m l j → length_to v j ≡ length_to v l + (line_at m j).length → Backed m v j going.note
  note_backed {v} r f e =
      let n≤ = few g.held in
      let all = g.held.line_count in
      let tie : Tie m v l j = record { known = let z = l< in omega arith; follows = f; equal = sym e } in
      ⊎_elim
      (λ own.
      let z : going.note - 1 ≡ l = omega arith in
      record { one = λ p u. rw z tie; many = λ p. absurd (let z = l< in omega arith) })
      (λ twin.
      let t = twin.1 in
      let k = t.reached in
      let other : Tie m v t.other j = record {
        known = let z = k.line in omega arith;
        follows = follows_free g.held k.free t.ends f;
        equal = omega (arith, e, r.same _ k.line k.reached, t.alike, r.same l l< reached);
      } in
      record { one = λ p u. absurd (omega (arith, twin.0)); many = λ p. (t.other, l, other, tie, t.differ) })
      o.notable

  -- Both ways are equal, and the note is noted too.
  module _ {v : List ℕ} (f : Follows m l j) (z : length_to w j < far) (equal : length_to w j ≡ going.length + get_or w (line_place j + line_length) 0) (t : TieNoted going.note j w v) where
    cell : (k : ℕ) → k < n → k ≢ j → get_or v (lengths_from + k) 0 ≡ get_or w (lengths_from + k) 0
    cell k k< o =
        ⊎_elim
        (λ a. t.kept.above (lengths_from + k) (omega (arith, o)))
        (λ a. t.kept.below (lengths_from + k) (omega arith))
        (le_or_lt j k)

    same : (k : ℕ) → k < n → length_to v k ≡ length_to w k
    same = here_or (λ k. k < n → length_to v k ≡ length_to w k) j (λ k<. t.length) (λ k o k<. ap (λ (x : ℕ). x / note_weight) (cell k k< o))

    note_of : (k : ℕ) → k < n → k ≢ j → predecessor v k ≡ predecessor w k
    note_of k k< o = ap (λ (x : ℕ). x % note_weight) (cell k k< o)

    above : (b : ℕ) → queue_from ≤ b → get_or v b 0 ≡ get_or w b 0
    above b b≤ = let n≤ = few g.held in t.kept.above b (omega arith)

    nexts_tie : (k : ℕ) → k < n → (next_leaving v k ≡ next_leaving w k) × (listed v k ≡ listed w k)
    nexts_tie k k< = let e = above (next_from + k) (omega arith) in (ap (λ (x : ℕ). x % list_weight) e, ap (λ (x : ℕ). x / list_weight % list_weight) e)

    marks_tie : (k : ℕ) → k < n → marked v k ≡ marked w k
    marks_tie k k< = ap (λ (x : ℕ). x / mark_weight) (above (next_from + k) (omega arith))

    tie_length : length_to v j ≡ length_to v l + (line_at m j).length
    tie_length = omega (arith, same j j<, same l l<, equal, here, length_at)

    grew_tie : Grew m n c going.length w v
    grew_tie =
        record {
          same = λ k k< z. same k k<;
          notes = here_or (λ k. k < n → length_to w k < far → (predecessor v k ≡ predecessor w k) ⊎ ((several ≤ predecessor v k) ⊎ (predecessor w k ≡ 0))) j
              (λ k< z.
              ⊎_elim
              (λ a. inr (inr a.0))
              (⊎_elim (λ a. inl (t.here ∙ a.1 ∙ sym a.0)) (λ a. inr (inl (omega (arith, t.here, a.0)))))
              (noted_cases t.noted))
              (λ k o k< z. inl (note_of k k< o));
          new = λ k k< z y. absurd (omega (arith, same k k<));
        }

    backed_tie : Backed m v j (predecessor v j)
    backed_tie =
        let all = g.held.line_count in
        let now = note_backed grew_tie f tie_length in
        let old = backed_grew grew_tie all j< z (g.backed j j< z) in
        rw t.here
        (⊎_elim
        (λ a. rw a.1 now)
        (⊎_elim
        (λ a. rw a.1 now)
        (λ a.
        record {
          one = λ p u. absurd (omega (arith, a.0));
          many = λ p. ⊎_elim (λ big. old.many big)
              (λ low.
              ⊎_elim
              (λ big. now.many big)
              (λ low'.
              let y = notable_some o.notable in
              (predecessor w j - 1, going.note - 1, old.one a.1 low, now.one y low', λ e. a.2 (omega (arith, a.1))))
              (le_or_lt several going.note))
              (le_or_lt several (predecessor w j));
        }))
        (noted_cases t.noted))

    pub tied : Relaxed q n c limit place going j w v count end
    tied =
        let h = held_kept (omega arith) t.kept g.held in
        let n≤ = few h in
        record {
          underway = underway_same g h same (λ a a≤ a<. above a a≤) nexts_tie (marked_same m w v marks_tie) grew_tie
              (here_or (λ k. k < n → length_to w k < far → Backed m v k (predecessor v k)) j
              (λ k< y. backed_tie)
              (λ k o k< y. rw (note_of k k< o) (backed_grew grew_tie h.line_count k< y (g.backed k k< y))));
          grew = grew_tie;
          kept = kept_within (omega arith) (omega arith) t.kept;
          here = λ f.
              record {
                tight = λ ok y. omega (arith, tie_length);
                noted = λ y u.
                    let some = notable_some o.notable in
                    rw t.here
                    (⊎_elim
                    (λ a. (omega (arith, a.1), λ low. a.1))
                    (⊎_elim (λ a. (omega (arith, a.1), λ low. a.1)) (λ a. (omega (arith, a.0), λ low. absurd (omega (arith, a.0)))))
                    (noted_cases t.noted));
              };
          head = key_same g h same (λ a a≤ a<. above a a≤) nexts_tie (marked_same m w v marks_tie) grew_tie place o.inside;
          marks = marks_tie;
          inside = o.inside;
        }

  -- Line `j` is reached.
  module _ {x count' end' : ℕ} {v : List ℕ} (f : Follows m l j) (fresh : far ≤ length_to w j) (ok : get_or w (line_place j + line_frc) 0 ≤ c)
      (is : x ≡ going.length + get_or w (line_place j + line_length) 0) (near : x ≤ limit)
      (a : Arrived m limit place j going.note x count end w v count' end') where
    n≤ : n ≤ greatest_line_count
    n≤ = few g.held

    end≤ : end ≤ n
    end≤ = omega (arith, g.room, count_le g.listing)

    same_queue : (i : ℕ) → i < end → queued a.second i ≡ queued w i
    same_queue = queue_same g j< a.put a.nears

    levelled : Levelled m n place end j x going.length w
    levelled =
        record {
          base = level;
          floor = λ i p≤ i<. let b = g.ordered place i (omega arith) p≤ i< in omega (arith, o.found);
          past = let some = (line_ok g.held j<).some in omega (arith, length_at);
          top = omega (arith, length_at);
        }

    entered_in : Entered m n limit place j going.note x count end w v end'
    entered_in =
        ⊎_elim into
        (λ e.
        rw e.1
        (subst (λ (u : List ℕ). Entered m n limit place j going.note x count end w u end) (sym e.2) (enter_unsent g j< a.put a.nears e.0)))
        a.queue
      where
        into : (a.sent ≡ true) × (end' ≡ end + 1) × Inserted place end (key_of x j) a.second v → Entered m n limit place j going.note x count end w v end'
        into e =
            let s = e.2 in
            let y = n≤ in
            let z = end≤ in
            let p = o.inside in
            let key : line_of (key_of x j) ≡ j = omega arith in
            rw e.1
            (enter g.held j< a.put a.nears v (end + 1) (λ k k<. s.kept.below k (omega arith)) (λ k k≤. s.kept.above k (let room = room_left g.listing j< fresh in let r = g.room in omega arith))
            (kept_within (omega arith) (let room = room_left g.listing j< fresh in let r = g.room in omega arith) s.kept)
            (inl (waits_new s key))
            (omega arith) (let b = g.room in omega arith)
            (ordered_more s (ordered_same w a.second same_queue g.ordered))
            (queued_in s (λ y. (y ≡ key_of x j) ⊎ ((k : ℕ) × (place ≤ k) × (k < end) × (y ≡ queued w k))) (inl refl) (λ i p≤ i<. inr (i, p≤, i<, same_queue i i<)))
            (λ k y. waits_more s (waits_same w a.second same_queue y)))

    grew_on : Grew m n c going.length w v
    grew_on = grew g j< fresh (omega (arith, class_at)) near entered_in levelled

    pub reaches : Relaxed q n c limit place going j w v count' end'
    reaches =
        let r = grew_on in
        let ok' : (line_at m j).frc ≤ c = omega (arith, class_at) in
        let way = g.real l l< reached in
        let len : length_to v j ≡ length_to v l + (line_at m j).length = omega
        (arith, found_now g j< fresh ok' near entered_in levelled, r.same l l< reached, here, length_at) in
        record {
          underway = rw a.counted
              (entered g j< fresh ok' near entered_in levelled
              (record {
                list = way.list ++ j ∷ [];
                way = way_more way.way f ok';
                sum = omega (arith, length_at, here, way.sum, total_more m way.list j);
              })
              (note_backed r f len));
          grew = r;
          kept = entered_in.kept;
          here = λ f.
              record {
                tight = λ ok t. omega (arith, len);
                noted = λ t u. rw (noted_now g j< fresh ok' near entered_in levelled) (notable_some o.notable, λ low. refl);
              };
          head = ⊎_elim
              (λ e. let s = e.2 in s.before place s.behind ∙ same_queue place o.inside)
              (λ e. ap (λ (u : List ℕ). queued u place) e.2 ∙ same_queue place o.inside)
              a.queue;
          marks = marks_now g j< fresh ok' near entered_in levelled;
          inside = ⊎_elim (λ e. let z = o.inside in omega (arith, e.1)) (λ e. let z = o.inside in omega (arith, e.1)) a.queue;
        }
