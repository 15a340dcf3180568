-- The search stays under way where lengths, the queue, the adjacency lists and the nearest free lines stay, what notes rest on, and what marks say.
use Rattle.work_area.specs.Area.{queue_from, heads_from, next_from}
use Rattle.search_cells.specs.Area.{Mirrored, far, list_weight, next_leaving, listed, Marked, length_to, predecessor, nearest_free, queued, named}
use Prim.Native.Nat.{ℕ, ◌+◌, ◌/◌, ◌≤◌, ◌<◌}
use mathlib.Core.Path.{◌≡◌, ◌∙◌, ap}
use mathlib.Core.List.{List}
use mathlib.Core.Logic.{inl, inr, ⊎_elim}
use native.Mathlib.Omega.{arith}
use lib.ListN.{length, get_or}
use Rattle.model.specs.Lines.{line_at}
use Rattle.relaxation.specs.Underway.{FreeReached, Waits, Backed, Standing, Task, Underway, Grew}
use Rattle.search_cells.proofs.Holding.{few, line_ok}
use Rattle.search_cells.proofs.Reached.{listing_same, count_le}
use Rattle.search_cells.proofs.Nearness.{nearest_lengths}
use Rattle.relaxation.proofs.Queueing.{waits_same, ordered_same}
use Rattle.relaxation.proofs.Growing.{free_grew, settled_grew}
use Rattle.search_cells.proofs.Keeping.{chained_same}

module _ {q : Task} {n c limit place count end d : ℕ} {w v : List ℕ} (g : Underway q n c limit place count end w) (held : Mirrored v n q.map)
    (lengths : (l : ℕ) → l < n → length_to v l ≡ length_to w l) (cells : (a : ℕ) → queue_from ≤ a → a < next_from → get_or v a 0 ≡ get_or w a 0)
    (nexts : (k : ℕ) → k < n → (next_leaving v k ≡ next_leaving w k) × (listed v k ≡ listed w k)) (marks : Marked q.map n w → Marked q.map n v)
    (grew : Grew q.map n c d w v) where
  pub key_same : (i : ℕ) → i < end → queued v i ≡ queued w i
  key_same i i< = let n≤ = few held in let b = g.room in cells (queue_from + i) (omega arith) (omega (arith, count_le g.listing))

  node_same : (b : ℕ) → b < length q.map.nodes → nearest_free v b ≡ nearest_free w b
  node_same b b< = let f = held.formed in ap (λ (x : ℕ). x / list_weight) (cells (heads_from + b) (omega arith) (omega arith))

  free_back : (l : ℕ) → FreeReached q.map n v l → FreeReached q.map n w l
  free_back l f = record { line = f.line; free = f.free; reached = let z = f.reached in omega (arith, lengths l f.line) }

  deferred : (l : ℕ) → l < n → Waits place end w (named (nearest_free w (line_at q.map l).end)) → Waits place end v (named (nearest_free v (line_at q.map l).end))
  deferred l l< y = rw (node_same (line_at q.map l).end (line_ok held l<).end) (waits_same w v key_same y)

  back : (l : ℕ) → l < n → length_to v l < far → length_to w l < far
  back l l< z = omega (arith, lengths l l<)

  standing : (l : ℕ) → l < n → length_to w l < far → Standing q.map c limit place end v l
  standing l l< z =
      ⊎_elim
      (λ s. inl (settled_grew grew g.small g.held.line_count l< z s))
      (λ s. inr (⊎_elim (λ y. inl (waits_same w v key_same y)) (λ y. inr (y.0, deferred l l< y.1)) s))
      (g.standing l l< z)

  pub underway_same : ((j : ℕ) → j < n → length_to w j < far → Backed q.map v j (predecessor v j)) → Underway q n c limit place count end v
  underway_same backed =
      let n≤ = few held in
      let f = held.formed in
      let list = listing_same lengths (λ i i<. (nexts i i<).1) g.listing in
      record {
        held = held;
        chained = chained_same q.map w v lengths (λ b b<. cells (heads_from + b) (omega arith) (omega arith)) nexts marks g.chained;
        listing = list;
        small = g.small;
        begun = g.begun;
        room = g.room;
        ordered = ordered_same w v key_same g.ordered;
        queue = λ i p≤ i<.
            let k = g.queue i p≤ i< in
            rw (key_same i i<) (record { line = k.line; found = lengths _ k.line ∙ k.found; reached = k.reached });
        within = λ k k< z. omega (arith, lengths k k<, g.within k k< (back k k< z));
        real = λ k k< z. rw (lengths k k<) (g.real k k< (back k k< z));
        level = λ k i k< z p≤ i<. omega (arith, lengths k k<, key_same i i<, g.level k i k< (back k k< z) p≤ i<);
        nearest = λ b b<. rw (node_same b b<) (nearest_lengths (g.nearest b b<) (λ k. free_grew grew) free_back (λ k x. lengths k x.line));
        standing = λ k k< z. standing k k< (back k k< z);
        backed = λ j j< z. backed j j< (back j j< z);
      }
