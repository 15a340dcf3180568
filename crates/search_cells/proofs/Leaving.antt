-- The adjacency lists: how they are made, and that a walk along one meets every such line.
use Rattle.work_area.specs.Area.{line_place, end_node, start_node, search_from, lengths_from, heads_from, next_from, last_barred_from}
use Rattle.model.specs.Map.{greatest_node_count, greatest_line_count, Map}
use Rattle.search_cells.specs.Area.{Mirrored, far, note_weight, list_weight, latest, length_to, next_leaving, listed, marked, mark_weight}
use Prim.Native.Nat.{ℕ, zero, suc, ◌+◌, ◌-◌, ◌*◌, ◌/◌, ◌%◌, ◌≤◌, ◌<◌}
use mathlib.Core.Path.{◌≡◌, sym, ◌∙◌, ap, subst}
use mathlib.Core.Bool.{cond}
use mathlib.Core.List.{List}
use mathlib.Core.Logic.{inl, ⊎_elim}
use native.Mathlib.Nat.{eq-or-lt_of_le}
use native.Mathlib.Omega.{arith}
use native.Mathlib.Numerals.{add-one}
use borrow.Author.Tests.{eq-eqb, ne_eqb, eqb-true, eqb-false}
use lib.Dec.{eqb}
use lib.ListN.{length, get_or, set, length-set}
use lib.Seq.{get_or-set_other}
use Rattle.model.specs.Lines.{line_at}
use Rattle.buffers.specs.Kept.{Kept}
use Rattle.search_cells.specs.Promises.{Linked}
use Rattle.buffers.proofs.Kept.{kept_then, at_set, kept_set}
use Rattle.search_cells.proofs.Reached.{listing_none}
use Rattle.buffers.proofs.Cases.{picked, le_or_lt, here_or}
use Rattle.search_cells.proofs.Holding.{held_kept, line_ok, few}

-- With one line more.
pub latest_same : (m : Map) (v i : ℕ) → (line_at m i).start ≡ v → latest m v (i + 1) ≡ i + 1
latest_same m v i e = rw (add-one i) (ap (λ t. cond t (suc i) (latest m v i)) (eq-eqb _ v e))

pub latest_other : (m : Map) (v i : ℕ) → ((line_at m i).start ≡ v → ⊥) → latest m v (i + 1) ≡ latest m v i
latest_other m v i d = rw (add-one i) (ap (λ t. cond t (suc i) (latest m v i)) (ne_eqb _ v d))

if_equal : (P : ℕ → Type 0) (m n a b : ℕ) → (m ≡ n → P a) → ((m ≡ n → ⊥) → P b) → P (cond (eqb m n) a b)
if_equal P m n a b same other = picked P (eqb m n) a b (λ e. same (eqb-true m n e)) (λ e. other (eqb-false m n e))

pub latest_le : (m : Map) (v i : ℕ) → latest m v i ≤ i
latest_le m v zero = omega arith
latest_le m v (suc i) =
    let ih = latest_le m v i in if_equal (λ x. x ≤ suc i) _ v _ _ (λ e. omega arith) (λ d. omega arith)

pub latest_hit : (m : Map) (v i : ℕ) → 0 < latest m v i → (line_at m (latest m v i - 1)).start ≡ v
latest_hit m v zero h = absurd (omega arith)
latest_hit m v (suc i) h =
    if_equal (λ x. 0 < x → (line_at m (x - 1)).start ≡ v) _ v _ _
    (λ e k. let z : suc i - 1 ≡ i = omega arith in rw z e)
    (λ d k. latest_hit m v i k)
    h

pub latest_all : (m : Map) (v i j : ℕ) → j < i → (line_at m j).start ≡ v → j < latest m v i
latest_all m v zero j j< e = absurd (omega arith)
latest_all m v (suc i) j j< e =
    if_equal (λ x. j < x) _ v _ _
    (λ e. omega arith)
    (λ d.
    latest_all m v i j
    (⊎_elim
    (λ z. absurd (d (subst (λ (k : ℕ). (line_at m k).start ≡ v) z e)))
    (λ l. l)
    (eq-or-lt_of_le {n = j} {m = i} (omega arith)))
    e)

-- A walk along the adjacency list of node `v` is at line `at - 1`, one of those that start there; or at its end.
pub record OnList (m : Map) (n v at : ℕ) : Type 0 where
  pub within : at ≤ n
  pub joined : 0 < at → (line_at m (at - 1)).start ≡ v

module _ (m : Map) (n v : ℕ) {at : ℕ} (e : at ≡ latest m v n) where
  pub list_start : OnList m n v at
  list_start = record { within = omega (arith, e, latest_le m v n); joined = λ pos. rw e (latest_hit m v n (omega arith)) }

  -- None is passed yet.
  pub list_none : (l : ℕ) → l < n → (line_at m l).start ≡ v → at ≤ l → ⊥
  list_none l l< there le = omega (arith, e, latest_all m v n l l< there)

module _ {m : Map} {n v at next : ℕ} (k : OnList m n v at) (pos : 0 < at) (e : next ≡ latest m (line_at m (at - 1)).start (at - 1)) where
  next_is : next ≡ latest m v (at - 1)
  next_is = e ∙ ap (λ (a : ℕ). latest m a (at - 1)) (k.joined pos)

  pub list_less : next < at
  list_less = omega (arith, next_is, latest_le m v (at - 1))

  pub list_next : OnList m n v next
  list_next =
      record { within = omega (arith, list_less, k.within); joined = λ some. rw next_is (latest_hit m v (at - 1) (omega (arith, next_is))) }

  -- What holds of those that are passed and of this one holds of those that are passed then.
  pub list_passed : (P : ℕ → Type 0) → ((l : ℕ) → l < n → (line_at m l).start ≡ v → at ≤ l → P l) → P (at - 1) →
      (l : ℕ) → l < n → (line_at m l).start ≡ v → next ≤ l → P l
  list_passed P old here l l< there le =
      ⊎_elim
      (old l l< there)
      (λ below.
      here_or (λ l. l < at → (line_at m l).start ≡ v → next ≤ l → P l) (at - 1)
      (λ l< there le. here)
      (λ l d l< there le. absurd (omega (arith, next_is, latest_all m v (at - 1) l (omega (arith, d)) there)))
      l below there le)
      (le_or_lt at l)

-- The adjacency lists of the lines below `i` are made, and no such line is reached.
pub record Linking (w : List ℕ) (i : ℕ) (m : Map) (v : List ℕ) : Type 0 where
  pub heads : (a : ℕ) → a < length m.nodes → get_or v (heads_from + a) 0 ≡ latest m a i
  pub nexts : (l : ℕ) → l < i → (next_leaving v l ≡ latest m (line_at m l).start l) × (listed v l ≡ 0) × (marked v l ≡ l)
  pub all : (l : ℕ) → l < i → far ≤ length_to v l
  pub kept : Kept search_from last_barred_from w v

pub linked : {w v : List ℕ} {n : ℕ} {m : Map} → n ≤ greatest_line_count → Linking w n m v → Linked w n m v
linked {n = n} {m = m} few k =
    record {
      chained = record {
        heads = λ a a<. omega (arith, k.heads a a<, latest_le m a n);
        nexts = λ l l<. (k.nexts l l<).0;
        listing = (0, listing_none k.all (λ i i<. (k.nexts i i<).1));
        bare = λ a a< p. absurd (omega (arith, k.heads a a<, latest_le m a n));
        marks = λ j j<. inl (k.nexts j j<).2;
      };
      kept = k.kept;
    }

module _ {u w : List ℕ} {n i : ℕ} {m : Map} (h : Mirrored u n m) (i< : i < n) (k : Linking u i m w) where
  pub start_at : get_or w (line_place i + end_node) 0 ≡ (line_at m i).start
  start_at = (held_kept (omega arith) k.kept h).line_held i 1 i< (omega arith)

  end_at : get_or w (line_place i + start_node) 0 ≡ (line_at m i).end
  end_at = (held_kept (omega arith) k.kept h).line_held i 0 i< (omega arith)

  -- Its two nodes are nodes of the map, and what stands in the cell of a node so far is small.
  pub nodes_in : (get_or w (line_place i + start_node) 0 < length m.nodes) × (get_or w (line_place i + end_node) 0 < length m.nodes)
  nodes_in = let o = line_ok h i< in (omega (arith, end_at, o.end), omega (arith, start_at, o.start))

  pub head_small : (v : ℕ) → v < length m.nodes → (v < greatest_node_count) × (get_or w (heads_from + v) 0 ≤ i)
  head_small v v< = let f = h.formed in (omega arith, omega (arith, k.heads v v<, latest_le m v i))

  pub link_step : {v : ℕ} → v ≡ get_or w (line_place i + end_node) 0 →
      Linking u (i + 1) m (set (set (set w (next_from + i) (get_or w (heads_from + v) 0 + mark_weight * i)) (heads_from + v) (i + 1)) (lengths_from + i) (far * note_weight))
  link_step {v} at =
      let head = get_or w (heads_from + v) 0 in
      let x = head + mark_weight * i in
      let w₁ = set w (next_from + i) x in
      let w₂ = set w₁ (heads_from + v) (i + 1) in
      let small = (head_small (line_at m i).start (line_ok h i<).start).0 in
      let n≤ = few h in
      let s = k.kept.same in
      let from : v ≡ (line_at m i).start = at ∙ start_at in
      let e : head ≡ latest m (line_at m i).start i = rw from (k.heads _ (line_ok h i<).start) in
      record {
        heads = λ a a<. get_or-set_other w₂ (lengths_from + i) (heads_from + a) (far * note_weight) 0 (omega arith)
            ∙ at_set (λ a y. a < length m.nodes → y ≡ latest m a (i + 1)) w₁ heads_from v (i + 1)
            (simp length-set (omega arith))
            (λ a<. sym (latest_same m v i (sym from)))
            (λ a d a<. get_or-set_other w (next_from + i) (heads_from + a) x 0 (let f = h.formed in omega arith) ∙ k.heads a a<
            ∙ sym (latest_other m a i (λ y. d (sym (from ∙ y))))) a a<;
        nexts = λ l l<.
            rw (get_or-set_other w₂ (lengths_from + i) (next_from + l) (far * note_weight) 0 (omega arith), get_or-set_other w₁ (heads_from + v) (next_from + l) (i + 1) 0 (omega arith))
            (at_set (λ a y. a < i + 1 → (y % list_weight ≡ latest m (line_at m a).start a) × (y / list_weight % list_weight ≡ 0) × (y / mark_weight ≡ a)) w next_from i x (omega arith)
            (λ a<. let b = latest_le m (line_at m i).start i in (omega arith, omega arith, omega arith))
            (λ a d a<. k.nexts a (omega arith)) l l<);
        all = at_set (λ a y. a < i + 1 → far ≤ y / note_weight) w₂ lengths_from i (far * note_weight) (simp length-set (omega arith)) (λ a<. omega arith)
            (λ a d a<.
            rw (get_or-set_other w₁ (heads_from + v) (lengths_from + a) (i + 1) 0 (omega arith), get_or-set_other w (next_from + i) (lengths_from + a) x 0 (omega arith))
            (k.all a (omega arith)));
        kept = kept_then k.kept
            (kept_then (kept_set (next_from + i) x (omega arith) (omega arith))
            (kept_then (kept_set (heads_from + v) (i + 1) (omega arith) (omega arith)) (kept_set (lengths_from + i) (far * note_weight) (omega arith) (omega arith))));
      }

-- The node where line `l` ends.
module _ {w : List ℕ} {n l v : ℕ} {m : Map} (h : Mirrored w n m) (l< : l < n) (at : v ≡ get_or w (line_place l + start_node) 0) where
  pub end_is : v ≡ (line_at m l).end
  end_is = at ∙ h.line_held l 0 l< (omega arith)

  pub end_in : v < length m.nodes
  end_in = omega (arith, end_is, (line_ok h l<).end)
