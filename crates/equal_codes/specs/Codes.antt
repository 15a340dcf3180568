-- The nodes' codes in the work area, and chains of the nodes that are in one bucket.
use Rattle.work_area.specs.Area.{node_place, codes_from, chains_from, buckets_from, codes_to, buckets}
use Rattle.model.specs.Map.{lon_code, lat_code, clash}
use Rattle.std.specs.Prelude.{ℕ, ◌+◌, ◌*◌, ◌/◌, ◌%◌, ◌≤◌, ◌<◌, ◌≡◌, Bool, List, get_or}
use Rattle.buffers.specs.Kept.{Kept}
use Rattle.work_area.specs.Held.{held_node, held_nodes}

-- Where the codes, the chains and their heads stand.
abbrev pub codes_at : ℕ → ℕ
codes_at i = codes_from + node_place i

abbrev pub next_at : ℕ → ℕ
next_at i = chains_from + i

abbrev pub head_at : ℕ → ℕ
head_at h = buckets_from + h

-- The codes of node `i` are in their place; those of the first `n` nodes are.
pub record CodedAt (w : List ℕ) (i : ℕ) : Type 0 where
  pub lon : get_or w (codes_at i) 0 ≡ lon_code (held_node w i)
  pub lat : get_or w (codes_at i + 1) 0 ≡ lat_code (held_node w i)

abbrev pub Coded : List ℕ → ℕ → Type 0
Coded w n = (i : ℕ) → i < n → CodedAt w i

pub record CodesPut (n : ℕ) (w v : List ℕ) : Type 0 where
  pub coded : Coded v n
  pub kept : Kept codes_from chains_from w v

-- The bucket of two codes, and that of node `i`.
unfoldable pub bucket_of : ℕ → ℕ → ℕ
bucket_of x y = (x + x / buckets + 37 * (y + y / buckets)) % buckets

unfoldable pub bucket_at : List ℕ → ℕ → ℕ
bucket_at w i = bucket_of (get_or w (codes_at i) 0) (get_or w (codes_at i + 1) 0)

-- `k` is 1 more than the last node before node `j` in bucket `h`, or 0 where there is none.
pub record Last (w : List ℕ) (h j k : ℕ) : Type 0 where
  pub before : k ≤ j
  pub inside : (m : ℕ) → k ≡ m + 1 → bucket_at w m ≡ h
  pub none : (m : ℕ) → k ≤ m → m < j → bucket_at w m ≡ h → ⊥

-- Chains of the first `j` nodes: from each bucket to its last node, and from each node to the last one before it in its bucket.
pub record Chains (w : List ℕ) (j : ℕ) : Type 0 where
  pub heads : (h : ℕ) → h < buckets → Last w h j (get_or w (head_at h) 0)
  pub nexts : (i : ℕ) → i < j → Last w (bucket_at w i) i (get_or w (next_at i) 0)

-- One node more in the chains.
pub record InBucket (j : ℕ) (w v : List ℕ) : Type 0 where
  pub chains : Chains v (j + 1)
  pub kept : Kept chains_from codes_to w v

-- No node in any chain yet.
pub record NoChains (w v : List ℕ) : Type 0 where
  pub chains : Chains v 0
  pub kept : Kept chains_from codes_to w v

-- Whether two of the first `n` nodes have the same pair of codes.
pub record EqualFound (low n : ℕ) (w v : List ℕ) (r : Bool) : Type 0 where
  pub found : r ≡ clash (held_nodes w n)
  pub kept : Kept low codes_to w v
