-- The lists of the lines that leave each node: how they are made, and that a walk along one meets every such line.
use Rattle.work_area.specs.Area.{line_place, start_node, lengths_from, queue_from, heads_from, next_from, last_barred_from, search_to}
use Rattle.work_area.proofs.Holding.{held_kept, few, line_ok}
use Rattle.model.specs.Map.{greatest_node_count, Map}
use Rattle.model.specs.Lines.{line_at}
use Prim.Native.Nat.{ℕ, ◌+◌, ◌-◌, ◌/◌, ◌%◌, ◌≤◌, ◌<◌}
use mathlib.Core.Path.{◌≡◌, sym, ◌∙◌, ap}
use mathlib.Core.List.{List}
use mathlib.Core.Logic.{◌⊎◌, inl, inr, ⊎_elim}
use native.Mathlib.Omega.{arith}
use lib.ListN.{length, get_or, set, length-set}
use lib.Seq.{get_or-set_other}
use Rattle.buffers.specs.Kept.{Kept, Filled}
use Rattle.buffers.proofs.Kept.{kept_none, kept_within, at_set, kept_set}
use Rattle.search_cells.specs.Area.{Set, latest, length_to, list_weight, mark_weight, note_weight}
use Rattle.search_cells.proofs.Keeping.{marked_same}
use Rattle.work_area.specs.Mirror.{mirror}
use Rattle.search_cells.proofs.Leaving.{latest_same, latest_other, OnList, list_start, list_none, list_next, list_passed}
use Rattle.search_cells.proofs.Keeping.{chained_same}
use Rattle.sole_ways.specs.SoleWays.{Worked}
use Rattle.leg_tests.specs.Leaving.{Listed}
use Rattle.sole_ways.proofs.Working.{worked_then}

-- ---- the cells of the lists are free

-- A range of cells that a search needs nothing of before it begins: those of the queue, or those that it keeps for each node.
abbrev Free : ℕ → ℕ → Type 0
Free low high = ((queue_from ≤ low) × (high ≤ heads_from)) ⊎ ((last_barred_from ≤ low) × (high ≤ search_to))

module _ {m : Map} {lines low high : ℕ} {w v : List ℕ} (free : Free low high) (k : Kept low high w v) (s : Set m lines w) where
  within : (queue_from ≤ low) × (high ≤ search_to)
  within = ⊎_elim (λ f. (omega arith, omega arith)) (λ f. (omega arith, omega arith)) free

  lower : (a : ℕ) → a < queue_from → get_or v a 0 ≡ get_or w a 0
  lower a h = let r = within in k.below a (omega arith)

  between : (a : ℕ) → heads_from ≤ a → a < last_barred_from → get_or v a 0 ≡ get_or w a 0
  between a l h = ⊎_elim (λ f. k.above a (omega arith)) (λ f. k.below a (omega arith)) free

  length_same : (l : ℕ) → l < lines → length_to v l ≡ length_to w l
  length_same l h = let n≤ = few s.held in ap (λ (x : ℕ). x / note_weight) (lower (lengths_from + l) (omega arith))

  head_same : (b : ℕ) → b < length m.nodes → get_or v (heads_from + b) 0 ≡ get_or w (heads_from + b) 0
  head_same b h = let f = s.held.formed in between (heads_from + b) (omega arith) (omega arith)

  next_same : (l : ℕ) → l < lines → get_or v (next_from + l) 0 ≡ get_or w (next_from + l) 0
  next_same l h = let n≤ = few s.held in between (next_from + l) (omega arith) (omega arith)

  -- After a change of such cells a search can begin as before.
  pub still_set : Worked m lines w v
  still_set =
      let r = within in
      record {
        set = record {
          held = held_kept (omega arith) k s.held;
          chained = chained_same (mirror m) w v length_same head_same
              (λ l l<. (ap (λ (x : ℕ). x % list_weight) (next_same l l<), ap (λ (x : ℕ). x / list_weight % list_weight) (next_same l l<)))
              (marked_same (mirror m) w v (λ l l<. ap (λ (x : ℕ). x / mark_weight) (next_same l l<))) s.chained;
        };
        kept = kept_within (omega arith) (omega arith) k;
      }

-- ---- the lists are made

-- The cells of the nodes are 0, and no line is on a list.
pub listed_none : {m : Map} {lines : ℕ} {w v : List ℕ} → Filled last_barred_from greatest_node_count 0 w v → Set m lines w → Listed m lines 0 w v
listed_none f s =
    let k = s.held.formed in
    record {
      leaving = record { firsts = λ a a<. f.filled a (omega arith); nexts = λ l l<. absurd (omega arith) };
      worked = still_set (inr (omega arith, omega arith)) f.kept s;
    }

-- The same of a change that begins with that area.
pub listed_again : {m : Map} {lines i : ℕ} {w v : List ℕ} → Listed m lines i w v → Listed m lines i v v
listed_again k = record { leaving = k.leaving; worked = record { set = k.worked.set; kept = kept_none } }

-- Each line starts at a node.
pub starts_small : {m : Map} {lines i : ℕ} {u w : List ℕ} → Listed m lines i u w → (l : ℕ) → l < lines →
    get_or w (line_place l + start_node) 0 < greatest_node_count
starts_small k l l< =
    let h = k.worked.set.held in
    let f = h.formed in
    omega (arith, h.line_held l 0 l< (omega arith), (line_ok h l<).start)

module _ {m : Map} {lines i : ℕ} {u w : List ℕ} (k : Listed m lines i u w) (i< : i < lines) where
  start_at : get_or w (line_place i + start_node) 0 ≡ (line_at m i).start
  start_at = k.worked.set.held.line_held i 0 i< (omega arith)

  start_small : get_or w (line_place i + start_node) 0 < greatest_node_count
  start_small = let h = k.worked.set.held in let f = h.formed in omega (arith, start_at, (line_ok h i<).start)

  -- One line more is on the list of its start node.
  pub listed_more : {v : ℕ} → v ≡ get_or w (line_place i + start_node) 0 →
      Listed m lines (i + 1) u (set (set w (queue_from + i) (get_or w (last_barred_from + v) 0)) (last_barred_from + v) (i + 1))
  listed_more {v} at =
      let x = get_or w (last_barred_from + v) 0 in
      let w₁ = set w (queue_from + i) x in
      let h = k.worked.set.held in
      let full = h.full in
      let z = start_small in
      let n≤ = few h in
      let from : v ≡ (line_at m i).start = at ∙ start_at in
      let e : x ≡ latest m (line_at m i).start i = rw from (k.leaving.firsts _ (line_ok h i<).start) in
      let one = still_set (inl (omega arith, omega arith)) (kept_set {lo = queue_from} {hi = heads_from} (queue_from + i) x (omega arith) (omega arith)) k.worked.set in
      let two = still_set (inr (omega arith, omega arith))
      (kept_set {lo = last_barred_from} {hi = search_to} {w = w₁} (last_barred_from + v) (i + 1) (omega arith) (omega arith)) one.set in
      record {
        leaving = record {
          firsts = at_set (λ a y. a < length m.nodes → y ≡ latest m a (i + 1)) w₁ last_barred_from v (i + 1)
              (simp length-set (omega arith))
              (λ a<. sym (latest_same m v i (sym from)))
              (λ a d a<. get_or-set_other w (queue_from + i) (last_barred_from + a) x 0 (omega arith) ∙ k.leaving.firsts a a<
              ∙ sym (latest_other m a i (λ y. d (sym (from ∙ y)))));
          nexts = λ l l<.
              get_or-set_other w₁ (last_barred_from + v) (queue_from + l) (i + 1) 0 (omega arith)
              ∙ at_set (λ a y. a < i + 1 → y ≡ latest m (line_at m a).start a) w queue_from i x (omega arith) (λ a<. e)
              (λ a d a<. k.leaving.nexts a (omega arith)) l l<;
        };
        worked = worked_then k.worked (worked_then one two);
      }

-- ---- a walk along a list

-- The walk along the list of node `v` is at line `at - 1`. Of the lines from `at` on none but `own` leaves the node and has the property `P`.
pub record Along (m : Map) (lines v own : ℕ) (P : ℕ → Type 0) (at : ℕ) : Type 0 where
  pub list : OnList m lines v at
  pub passed : (l : ℕ) → l < lines → (line_at m l).start ≡ v → at ≤ l → P l → l ≡ own

module _ {m : Map} {lines v own : ℕ} {P : ℕ → Type 0} where
  pub along_start : {at : ℕ} → at ≡ latest m v lines → Along m lines v own P at
  along_start e = record { list = list_start m lines v e; passed = λ l inside there le. absurd (list_none m lines v e l inside there le) }

  pub along_on : {at next : ℕ} → Along m lines v own P at → 0 < at → (P (at - 1) → at - 1 ≡ own) → next ≡ latest m (line_at m (at - 1)).start (at - 1) →
      Along m lines v own P next
  along_on k some here e =
      record { list = list_next k.list some e; passed = list_passed k.list some e (λ l. P l → l ≡ own) k.passed here }
