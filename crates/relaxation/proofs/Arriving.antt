-- A line is reached: what that does to the list, to the queue, to the nearest free lines and to what is known of all lines.
use Rattle.work_area.specs.Area.{heads_from, search_from, lengths_from, next_from, last_barred_from, ban_chain, queue_from}
use Rattle.model.specs.Map.{greatest_line_count, Map}
use Rattle.search_cells.specs.Area.{Mirrored, far, note_weight, list_weight, mark_weight, key_weight, marked, Listing, length_to, predecessor, first_leaving, nearest_free, queued, named, Nearest, NearerBy, farther, nearest, alike, line_of, key_of}
use Prim.Native.Nat.{ℕ, ◌+◌, ◌/◌, ◌%◌, ◌≤◌, ◌<◌}
use mathlib.Core.Path.{◌≡◌, refl, sym, ◌∙◌, ap, subst}
use mathlib.Core.List.{List}
use mathlib.Core.Logic.{◌⊎◌, inl, inr, ⊎_elim, ◌≢◌}
use Rattle.buffers.proofs.Kept.{kept_none, kept_then, kept_within}
use mathlib.Core.Bool.{Bool, true}
use native.Mathlib.Omega.{arith}
use borrow.Author.Tests.{eq-eqb}
use lib.ListN.{length, get_or}
use Rattle.model.specs.Lines.{line_at}
use Rattle.buffers.specs.Kept.{Kept}
use Rattle.way_lengths.specs.Ways.{line, Reached}
use Rattle.search_cells.specs.Promises.{Free, Put, Sent}
use Rattle.relaxation.specs.Underway.{FreeReached, Waits, Backed, Settled, Standing, Queued, Task, Underway, Grew}
use Rattle.buffers.proofs.Cases.{le_or_lt, here_or}
use Rattle.search_cells.proofs.Holding.{held_kept, few, line_ok}
use Rattle.way_lengths.proofs.Follows.{known}
use Rattle.search_cells.proofs.Turns.{follows_free}
use Rattle.search_cells.proofs.Reached.{listing_same, count_le}
use Rattle.relaxation.proofs.Queueing.{queue_kept, waits_same, ordered_same}
use Rattle.search_cells.proofs.Listing.{listing_more}
use Rattle.search_cells.proofs.Keeping.{marked_same}
use Rattle.search_cells.proofs.Nearness.{nearest_by, nearest_farther, nearest_lengths}
use Rattle.relaxation.proofs.Growing.{free_grew, backed_grew, settled_grew}

-- Two numbers are equal, or not.
pub equal_or : (a b : ℕ) → (a ≡ b) ⊎ (a ≢ b)
equal_or a b = here_or (λ k. (k ≡ b) ⊎ (k ≢ b)) b (inl refl) (λ k o. inr o) a

-- A line is free, or not.
pub free_or : (m : Map) (l : ℕ) → Free m l ⊎ (Free m l → ⊥)
free_or m l = equal_or (ban_chain m.bans l) 0

-- Line `j` is reached, with the note `note`: what the new area `v` has of it, however it came about.
pub record Entered (m : Map) (n limit place j note x count end : ℕ) (w v : List ℕ) (end' : ℕ) : Type 0 where
  pub first : List ℕ
  pub put : Put j note x count w first
  pub lengths : (k : ℕ) → k < n → get_or v (lengths_from + k) 0 ≡ get_or first (lengths_from + k) 0
  pub cells : (i : ℕ) → i < n → get_or v (next_from + i) 0 ≡ get_or first (next_from + i) 0
  pub heads : (a : ℕ) → a < length m.nodes → first_leaving v a ≡ first_leaving w a
  pub apart : (a : ℕ) → a < length m.nodes → a ≢ (line_at m j).end → nearest_free v a ≡ nearest_free w a
  pub free : Free m j → NearerBy limit first (nearest_free w (line_at m j).end) j (nearest_free v (line_at m j).end)
  pub barred : (Free m j → ⊥) → nearest_free v (line_at m j).end ≡ nearest_free w (line_at m j).end
  pub sent : Waits place end' v j ⊎ (Free m j × (nearest_free v (line_at m j).end ≢ j + 1))
  pub begun : place ≤ end'
  pub room : end' ≤ count + 1
  pub ordered : (i k : ℕ) → place ≤ i → i ≤ k → k < end' → queued v i ≤ queued v k
  pub queue : (i : ℕ) → place ≤ i → i < end' → (queued v i ≡ key_of x j) ⊎ ((k : ℕ) × (place ≤ k) × (k < end) × (queued v i ≡ queued w k))
  pub still : (l : ℕ) → Waits place end w l → Waits place end' v l
  pub kept : Kept search_from last_barred_from w v

-- It came about by `put` and `sends`, and then at most the queue was changed.
module _ {m : Map} {n limit j note x count : ℕ} {w first second : List ℕ} {sent : Bool} (h : Mirrored w n m) (j< : j < n)
    (put : Put j note x count w first) (s : Sent m limit j first second sent) where
  head_same : (b : ℕ) → b < length m.nodes → get_or first (heads_from + b) 0 ≡ get_or w (heads_from + b) 0
  head_same b b< = let f = h.formed in put.rest (heads_from + b) (omega arith) (omega arith)

  nears_same : (b : ℕ) → b < length m.nodes → nearest_free first b ≡ nearest_free w b
  nears_same b b< = ap (λ (y : ℕ). y / list_weight) (head_same b b<)

  module _ (u : List ℕ) (last : ℕ) (low : (k : ℕ) → k < queue_from → get_or u k 0 ≡ get_or second k 0)
      (high : (k : ℕ) → heads_from ≤ k → get_or u k 0 ≡ get_or second k 0) where
    nears_now : (b : ℕ) → nearest_free u b ≡ nearest_free second b
    nears_now b = ap (λ (y : ℕ). y / list_weight) (high (heads_from + b) (omega arith))

    pub enter : {place end : ℕ} → Kept search_from last_barred_from second u → Waits place last u j ⊎ (Free m j × (nearest_free u (line_at m j).end ≢ j + 1)) → place ≤ last →
        last ≤ count + 1 → ((i k : ℕ) → place ≤ i → i ≤ k → k < last → queued u i ≤ queued u k) →
        ((i : ℕ) → place ≤ i → i < last → (queued u i ≡ key_of x j) ⊎ ((k : ℕ) × (place ≤ k) × (k < end) × (queued u i ≡ queued w k))) →
        ((k : ℕ) → Waits place end w k → Waits place last u k) → Entered m n limit place j note x count end w u last
    enter kept sent begun room ordered queue still =
        let n≤ = few h in
        let f = h.formed in
        let node = (line_ok h j<).end in
        record {
          first = first;
          put = put;
          lengths = λ k k<. low (lengths_from + k) (omega arith) ∙ s.kept.below (lengths_from + k) (omega arith);
          cells = λ i i<. high (next_from + i) (omega arith) ∙ s.kept.above (next_from + i) (omega arith);
          heads = λ b b<. ap (λ (y : ℕ). y % list_weight) (high (heads_from + b) (omega arith)) ∙ s.heads b (omega arith)
              ∙ ap (λ (y : ℕ). y % list_weight) (head_same b b<);
          apart = λ b b< d. nears_now b ∙ s.others b (omega arith) d ∙ nears_same b b<;
          free = λ free. rw (nears_now (line_at m j).end, ← nears_same _ node) (s.free free).0;
          barred = λ d. nears_now _ ∙ (s.barred d).0 ∙ nears_same _ node;
          sent = sent;
          begun = begun;
          room = room;
          ordered = ordered;
          queue = queue;
          still = still;
          kept = kept_then put.kept (kept_then (kept_within (omega arith) (omega arith) s.kept) kept);
        }

-- A search is under way, and line `j` is put and sent, or not.
module _ {q : Task} {n c limit place count end j note x : ℕ} {w first second : List ℕ} {sent : Bool} (g : Underway q n c limit place count end w) (j< : j < n)
    (put : Put j note x count w first) (s : Sent q.map limit j first second sent) where
  pub queue_same : (i : ℕ) → i < end → queued second i ≡ queued w i
  queue_same i i< = let n≤ = few g.held in queue_kept put s i (omega (arith, g.room, count_le g.listing))

  -- A line that is not sent is free, and not the nearest free line of its node.
  unsent : sent ≢ true → Free q.map j × (nearest_free second (line_at q.map j).end ≢ j + 1)
  unsent d =
      ⊎_elim (λ free. (free, λ e. d ((s.free free).1 ∙ eq-eqb _ _ e))) (λ barred. absurd (d (s.barred barred).1)) (free_or q.map j)

  -- So the queue stays as it is.
  pub enter_unsent : sent ≢ true → Entered q.map n limit place j note x count end w second end
  enter_unsent d =
      enter g.held j< put s second end (λ k k<. refl) (λ k k≤. refl) kept_none (inr (unsent d)) g.begun (let b = g.room in omega arith)
      (ordered_same w second queue_same g.ordered)
      (λ i p≤ i<. inr (i, p≤, i<, queue_same i i<))
      (λ k. waits_same w second queue_same)

-- All lengths that are found, and all that wait, are level with `d`, and the new length is past it.
pub record Levelled (m : Map) (n place end j x d : ℕ) (w : List ℕ) : Type 0 where
  pub base : (l : ℕ) → l < n → length_to w l < far → length_to w l ≤ d + (line_at m l).length
  pub floor : (i : ℕ) → place ≤ i → i < end → d ≤ queued w i / key_weight
  pub past : d < x
  pub top : x ≤ d + (line_at m j).length

module _ {q : Task} {n c limit place count end j note x d end' : ℕ} {w v : List ℕ} (g : Underway q n c limit place count end w) (j< : j < n)
    (fresh : far ≤ length_to w j) (ok : (line_at q.map j).frc ≤ c) (near : x ≤ limit) (a : Entered q.map n limit place j note x count end w v end')
    (l : Levelled q.map n place end j x d w) where
  few_lines : n ≤ greatest_line_count
  few_lines = few g.held

  other : (k : ℕ) → k < n → length_to w k < far → k ≢ j
  other k k< z e = omega (arith, subst (λ (k : ℕ). length_to w k < far) e z)

  found : length_to v j ≡ x
  found = ap (λ (y : ℕ). y / note_weight) (a.lengths j j<) ∙ a.put.found

  note_now : predecessor v j ≡ note
  note_now = ap (λ (y : ℕ). y % note_weight) (a.lengths j j<) ∙ a.put.before

  same : (k : ℕ) → k < n → k ≢ j → (length_to v k ≡ length_to w k) × (predecessor v k ≡ predecessor w k)
  same k k< o =
      let n≤ = few_lines in
      let e = a.put.others k (omega arith) o in
      (ap (λ (y : ℕ). y / note_weight) (a.lengths k k<) ∙ e.0, ap (λ (y : ℕ). y % note_weight) (a.lengths k k<) ∙ e.1)

  pub marks_now : (k : ℕ) → k < n → marked v k ≡ marked w k
  marks_now k k< = let n≤ = few_lines in ap (λ (y : ℕ). y / mark_weight) (a.cells k k<) ∙ (a.put.nexts k (omega arith)).1

  stays : (k : ℕ) → k < n → length_to w k < far → length_to v k ≡ length_to w k
  stays k k< z = (same k k< (other k k< z)).0

  -- What holds of line `j` and of every line that was reached, holds of every line that is reached.
  each : (P : ℕ → Type 0) → P j → ((k : ℕ) → k < n → length_to w k < far → P k) → (k : ℕ) → k < n → length_to v k < far → P k
  each P new old = here_or (λ k. k < n → length_to v k < far → P k) j (λ k< z. new) (λ k o k< z. old k k< (omega (arith, (same k k< o).0)))

  pub grew : Grew q.map n c d w v
  grew =
      record {
        same = stays;
        notes = λ k k< z. inl (same k k< (other k k< z)).1;
        new = here_or (λ k. k < n → far ≤ length_to w k → length_to v k < far → ((line_at q.map k).frc ≤ c) × (d < length_to v k)) j
            (λ k< z y. (ok, omega (arith, found, l.past)))
            (λ k o k< z y. absurd (omega (arith, (same k k< o).0)));
      }

  listing : Listing v n (count + 1)
  listing =
      let s = listing_more few_lines j< fresh (let z = g.small in omega arith) a.put g.listing in
      listing_same (λ k k<. ap (λ (y : ℕ). y / note_weight) (a.lengths k k<)) (λ i i<. ap (λ (y : ℕ). y / list_weight % list_weight) (a.cells i i<)) s

  queued_by : (P : ℕ → Type 0) → P (key_of x j) → ((i : ℕ) → place ≤ i → i < end → P (queued w i)) → (i : ℕ) → place ≤ i → i < end' → P (queued v i)
  queued_by P new old i p≤ i< = ⊎_elim (λ e. rw e new) (λ t. rw t.3 (old t.0 t.1 t.2)) (a.queue i p≤ i<)

  queue : (i : ℕ) → place ≤ i → i < end' → Queued n v (queued v i)
  queue =
      let n≤ = few_lines in
      let s = g.small in
      queued_by (Queued n v)
      (let e : line_of (key_of x j) ≡ j = omega arith in
      let f : (key_of x j) / key_weight ≡ x = omega arith in
      record { line = omega arith; found = rw e (rw f found); reached = omega arith })
      (λ i p≤ i<.
      let k = g.queue i p≤ i< in
      let z = k.reached in
      let e = k.found in
      record { line = k.line; found = stays _ k.line (omega arith) ∙ e; reached = z })

  level : (k i : ℕ) → k < n → length_to v k < far → place ≤ i → i < end' → length_to v k ≤ queued v i / key_weight + (line_at q.map k).length
  level k i k< z p≤ i< =
      queued_by (λ y. length_to v k ≤ y / key_weight + (line_at q.map k).length)
      (each (λ k. length_to v k ≤ (key_of x j) / key_weight + (line_at q.map k).length)
      (let n≤ = few_lines in omega (arith, found))
      (λ k k< z. let n≤ = few_lines in omega (arith, stays k k< z, l.base k k< z, l.past))
      k k< z)
      (λ i p≤ i<.
      each (λ k. length_to v k ≤ queued w i / key_weight + (line_at q.map k).length)
      (omega (arith, found, l.top, l.floor i p≤ i<))
      (λ k k< z. omega (arith, stays k k< z, g.level k i k< z p≤ i<))
      k k< z)
      i p≤ i<

  -- The free lines that are reached: line `j` too, if it is free.
  free_more : (k : ℕ) → FreeReached q.map n w k → FreeReached q.map n v k
  free_more k = free_grew grew

  free_split : (k : ℕ) → FreeReached q.map n v k → (k ≡ j) ⊎ FreeReached q.map n w k
  free_split k f =
      ⊎_elim (λ e. inl e)
      (λ o. inr (record { line = f.line; free = f.free; reached = let z = f.reached in omega (arith, (same k f.line o).0) }))
      (equal_or k j)

  nearest_put : (b : ℕ) → b < length q.map.nodes → Nearest q.map limit a.first (FreeReached q.map n w) b (nearest_free w b)
  nearest_put b b< =
      nearest_lengths (g.nearest b b<) (λ k f. f) (λ k f. f)
      (λ k f. let n≤ = few_lines in let z = f.line in (a.put.others k (omega arith) (other k z f.reached)).0)

  nearest_now : {b y : ℕ} → Nearest q.map limit a.first (FreeReached q.map n v) b y → Nearest q.map limit v (FreeReached q.map n v) b y
  nearest_now c = nearest_lengths c (λ k f. f) (λ k f. f) (λ k f. ap (λ (y : ℕ). y / note_weight) (a.lengths k f.line))

  nearest_all : (b : ℕ) → b < length q.map.nodes → Nearest q.map limit v (FreeReached q.map n v) b (nearest_free v b)
  nearest_all b b< =
      here_or (λ b. b < length q.map.nodes → Nearest q.map limit v (FreeReached q.map n v) b (nearest_free v b)) (line_at q.map j).end
      (λ b<. ⊎_elim (nearest_here b<) (nearest_barred b<) (free_or q.map j))
      (λ b o b<. rw (a.apart b b< o) (nearest_now (nearest_farther j free_split free_more (nearest_put b b<) (λ e. o (sym e)))))
      b b<
    where
      nearest_here : (line_at q.map j).end < length q.map.nodes → Free q.map j →
          Nearest q.map limit v (FreeReached q.map n v) (line_at q.map j).end (nearest_free v (line_at q.map j).end)
      nearest_here b< f =
          let n≤ = few_lines in
          nearest_now
          (nearest_by j free_split free_more (nearest_put _ b<) (omega arith)
          (record { line = j<; free = f; reached = let s = g.small in omega (arith, found) })
          refl
          (λ p. omega (arith, p.reached))
          (a.free f))

      nearest_barred : (line_at q.map j).end < length q.map.nodes → (Free q.map j → ⊥) →
          Nearest q.map limit v (FreeReached q.map n v) (line_at q.map j).end (nearest_free v (line_at q.map j).end)
      nearest_barred b< o =
          rw (a.barred o)
          (nearest_lengths (g.nearest _ b<) free_more
          (λ k f. ⊎_elim (λ e. absurd (o (subst (Free q.map) e f.free))) (λ f. f) (free_split k f))
          (λ k f. stays k f.line f.reached))

  -- The nearest free line of the node where line `j` ends is the one that it was, or line `j`, which then waits.
  moved : Free q.map j → ((0 < nearest_free w (line_at q.map j).end) × (named (nearest_free v (line_at q.map j).end) ≡ named (nearest_free w (line_at q.map j).end)))
      ⊎ ((nearest_free v (line_at q.map j).end ≡ j + 1) × Waits place end' v (named (nearest_free v (line_at q.map j).end)))
  moved f = go (a.free f)
    where
      put_length : length_to a.first j ≡ x
      put_length = a.put.found

      go : NearerBy limit a.first (nearest_free w (line_at q.map j).end) j (nearest_free v (line_at q.map j).end) →
          ((0 < nearest_free w (line_at q.map j).end) × (named (nearest_free v (line_at q.map j).end) ≡ named (nearest_free w (line_at q.map j).end)))
          ⊎ ((nearest_free v (line_at q.map j).end ≡ j + 1) × Waits place end' v (named (nearest_free v (line_at q.map j).end)))
      go (farther e h) = ⊎_elim (λ z. absurd (omega (arith, put_length))) (λ z. inl (z.0, ap named e)) h
      go (nearest e h less) =
          let n≤ = few_lines in
          let z : named (nearest_free v (line_at q.map j).end) ≡ j = omega arith in
          inr (e, rw z (⊎_elim (λ s. s) (λ s. absurd (s.1 e)) a.sent))
      go (alike e h pos same) = inl (pos, omega arith)

  -- The nearest free line of any node still waits where it did.
  waits_still : (b : ℕ) → b < length q.map.nodes → Waits place end w (named (nearest_free w b)) → Waits place end' v (named (nearest_free v b))
  waits_still b b< =
      here_or (λ b. b < length q.map.nodes → Waits place end w (named (nearest_free w b)) → Waits place end' v (named (nearest_free v b))) (line_at q.map j).end
      (λ b< z.
      ⊎_elim
      (λ f. ⊎_elim (λ s. rw s.1 (a.still _ z)) (λ s. s.1) (moved f))
      (λ o. rw (a.barred o) (a.still _ z))
      (free_or q.map j))
      (λ b o b< z. rw (a.apart b b< o) (a.still _ z))
      b b<

  end_node : (k : ℕ) → k < n → (line_at q.map k).end < length q.map.nodes
  end_node k k< = (line_ok g.held k<).end

  standing_old : (k : ℕ) → k < n → length_to w k < far → Standing q.map c limit place end' v k
  standing_old k k< z =
      ⊎_elim
      (λ s. inl (settled_grew grew g.small g.held.line_count k< z s))
      (λ s. inr (⊎_elim (λ t. inl (a.still k t)) (λ t. inr (t.0, waits_still _ (end_node k k<) t.1)) s))
      (g.standing k k< z)

  -- A free line that ends at the same node, is nearer and is settled, settles line `j`: no way is as long as by way of line `j`.
  settled_by : {k : ℕ} → FreeReached q.map n v k → (line_at q.map k).end ≡ (line_at q.map j).end → length_to v k ≤ length_to v j →
      Settled q.map c limit v k → Settled q.map c limit v j
  settled_by {k} f e less s p t =
      let s' = s p (follows_free g.held f.free e t) in
      let p< : p < n = let z = known t in omega (arith, g.held.line_count) in
      record {
        tight = λ ok near. omega (arith, s'.tight ok (omega arith));
        noted = λ near tie. absurd
            (each (λ p. length_to v j + (line_at q.map p).length ≡ length_to v p → ⊥)
            (λ z. omega (arith, found, l.past, l.top))
            (λ p p< z y. omega (arith, found, l.past, stays p p< z, l.base p p< z))
            p p< (let s = g.small in omega arith) tie.equal);
      }

  standing_new : Standing q.map c limit place end' v j
  standing_new = ⊎_elim (λ s. inr (inl s)) (λ s. deferred s.0 s.1) a.sent
    where
      deferred : Free q.map j → nearest_free v (line_at q.map j).end ≢ j + 1 → Standing q.map c limit place end' v j
      deferred f o =
          ⊎_elim
          (λ s.
          let node = end_node j j< in
          let before = g.nearest _ node in
          let k = before.holds s.0 in
          let e = before.ends s.0 in
          let now = nearest_all _ node in
          let pos : 0 < nearest_free v (line_at q.map j).end = positive in
          let least = now.least pos j (record { line = j<; free = f; reached = let z = g.small in omega (arith, found) }) refl in
          ⊎_elim
          (λ t.
          inl (settled_by (free_more _ k) e (rw s.1 at least) (settled_grew grew g.small g.held.line_count k.line k.reached t)))
          (λ t.
          inr (inr (
            f,
            rw s.1
                (⊎_elim (λ y. a.still _ y) (λ y. let z : named (nearest_free w (line_at q.map (named (nearest_free w (line_at q.map j).end))).end) ≡ named (nearest_free w (line_at q.map j).end) = ap (λ (b : ℕ). named (nearest_free w b)) e in a.still _ (rw z at y.1)) t),
          )))
          (g.standing _ k.line k.reached))
          (λ s. absurd (o s.0))
          (moved f)
        where
          positive : 0 < nearest_free v (line_at q.map j).end
          positive =
              ⊎_elim
              (λ none.
              absurd (let z = (nearest_all _ (end_node j j<)).none (omega arith) j (record { line = j<; free = f; reached = let z = g.small in omega (arith, found) }) refl in omega (arith, found)))
              (λ z. z)
              (le_or_lt (nearest_free v (line_at q.map j).end) 0)

  pub entered : Reached q.map c q.from (line j) x → Backed q.map v j note → Underway q n c limit place (count + 1) end' v
  entered way backed =
      let n≤ = few_lines in
      let f = g.held.formed in
      record {
        held = held_kept (omega arith) a.kept g.held;
        chained = record {
          heads = λ b b<. a.heads b b< ∙ g.chained.heads b b<;
          nexts = λ k k<. ap (λ (y : ℕ). y % list_weight) (a.cells k k<) ∙ (a.put.nexts k (omega arith)).0 ∙ g.chained.nexts k k<;
          listing = (count + 1, listing);
          bare = λ b b< p. let z = nearest_all b b< in let k = z.holds p in (_, k.line, k.reached, z.ends p);
          marks = marked_same q.map w v marks_now g.chained.marks;
        };
        listing = listing;
        small = g.small;
        begun = a.begun;
        room = a.room;
        ordered = a.ordered;
        queue = queue;
        within = each (λ k. length_to v k ≤ limit) (omega (arith, found)) (λ k k< z. omega (arith, stays k k< z, g.within k k< z));
        real = each (λ k. Reached q.map c q.from (line k) (length_to v k)) (rw found way) (λ k k< z. rw (stays k k< z) (g.real k k< z));
        level = level;
        nearest = nearest_all;
        standing = each (Standing q.map c limit place end' v) standing_new standing_old;
        backed = each (λ k. Backed q.map v k (predecessor v k)) (rw note_now backed)
            (λ k k< z. rw (same k k< (other k k< z)).1 (backed_grew grew g.held.line_count k< z (g.backed k k< z)));
      }

  pub found_now : length_to v j ≡ x
  found_now = found

  pub noted_now : predecessor v j ≡ note
  noted_now = note_now

  pub lengths_now : (k : ℕ) → k < n → k ≢ j → length_to v k ≡ length_to w k
  lengths_now k k< o = (same k k< o).0
