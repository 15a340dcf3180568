-- A work area that holds a map: it still does after a change in the cells of searches, and what its numbers are.
use Rattle.work_area.specs.Area.{node_place, latitude, line_place, search_from, codes_from, bans_from, ban_head, ban_second, ban_earlier, BansHeld, Holds, Held}
use Rattle.model.specs.Map.{greatest_line_count, Turn, Map}
use Prim.Native.Nat.{ℕ, ◌+◌, ◌≤◌, ◌<◌}
use mathlib.Core.Path.{◌≡◌, ◌∙◌, sym, subst}
use mathlib.Core.List.{List}
use native.Mathlib.Nat.{add-zero}
use native.Mathlib.Omega.{arith}
use lib.ListN.{length, get_or}
use lib.Dec.{lit<}
use Rattle.model.specs.Lines.{node_at, line_at}
use Rattle.buffers.specs.Kept.{Kept}
use Rattle.model.specs.WellFormed.{LineOk}

-- A change below the banned turns leaves them.
pub bans_kept : {w v : List ℕ} {low high lines : ℕ} {bans : List Turn} → high ≤ bans_from → Kept low high w v → BansHeld w lines bans → BansHeld v lines bans
bans_kept up kept held =
    record {
      few = held.few;
      heads = λ l h. kept.above (ban_head l) (omega arith) ∙ held.heads l h;
      seconds = λ i h. kept.above (ban_second i) (omega arith) ∙ held.seconds i h;
      earlier = λ i h. kept.above (ban_earlier i) (omega arith) ∙ held.earlier i h;
    }

pub holds_kept : {w v : List ℕ} {nodes lines low high : ℕ} {m : Map} → Holds w nodes lines m → Kept low high w v → codes_from ≤ low → high ≤ bans_from →
    Holds v nodes lines m
holds_kept h kept l u =
    let few_nodes = h.formed.few_nodes in
    let few_lines = h.formed.few_lines in
    let n = h.node_count in
    let s = h.line_count in
    record {
      full = omega (arith, h.full, kept.same);
      formed = h.formed;
      node_count = h.node_count;
      line_count = h.line_count;
      node_held = λ i k a b. kept.below (node_place i + k) (omega arith) ∙ h.node_held i k a b;
      line_held = λ i k a b. kept.below (line_place i + k) (omega arith) ∙ h.line_held i k a b;
      bans_held = bans_kept u kept h.bans_held;
    }

-- ---- the numbers of a node

module _ {w : List ℕ} {nodes lines : ℕ} {m : Map} (h : Holds w nodes lines m) (i : ℕ) (known : i < nodes) where
  pub lon_at : get_or w (node_place i) 0 ≡ (node_at m i).lon
  lon_at = rw add-zero at (h.node_held i 0 known (lit< tt))

  pub lat_at : get_or w (node_place i + latitude) 0 ≡ (node_at m i).lat
  lat_at = h.node_held i 1 known (lit< tt)

-- ---- with the map's own count of nodes

module _ {lo hi : ℕ} where
  -- Behind the lines and before the banned turns, a change leaves the map.
  pub held_kept : {w v : List ℕ} {n : ℕ} {m : Map} → (search_from ≤ lo) × (hi ≤ bans_from) → Kept lo hi w v → Held w n m → Held v n m
  held_kept (low, high) k h = holds_kept h k low high

-- The node count that a caller holds is the map's.
pub held : {w : List ℕ} {nodes lines : ℕ} {m : Map} → Holds w nodes lines m → Held w lines m
held {w} {lines = lines} {m = m} h = subst (λ (k : ℕ). Holds w k lines m) (sym h.node_count) h

module _ {w : List ℕ} {n : ℕ} {m : Map} (h : Held w n m) where
  pub few : n ≤ greatest_line_count
  few = let f = h.formed in omega arith

  pub line_ok : {l : ℕ} → l < n → LineOk (length m.nodes) (line_at m l)
  line_ok l< = h.formed.line_ok _ (omega arith)
