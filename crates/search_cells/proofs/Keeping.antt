-- The adjacency lists, the list of reached lines and the marks where their cells stay as they are.
use Rattle.work_area.specs.Area.{heads_from}
use Rattle.search_cells.specs.Area.{list_weight, next_leaving, listed, marked, Marked, Chained, length_to}
use Rattle.model.specs.Map.{Map}
use Prim.Native.Nat.{ℕ, ◌+◌, ◌/◌, ◌%◌, ◌<◌}
use mathlib.Core.Path.{◌≡◌, ◌∙◌, ap}
use mathlib.Core.List.{List}
use native.Mathlib.Omega.{arith}
use lib.ListN.{length, get_or}
use Rattle.search_cells.proofs.Reached.{listing_same}

pub marked_same : (m : Map) {n : ℕ} (w v : List ℕ) → ((k : ℕ) → k < n → marked v k ≡ marked w k) → Marked m n w → Marked m n v
marked_same m w v same marks j j< = rw (same j j<) (marks j j<)

-- The adjacency lists, the list of reached lines and the marks stay where their cells do, and lengths.
pub chained_same : (m : Map) {n : ℕ} (w v : List ℕ) → ((l : ℕ) → l < n → length_to v l ≡ length_to w l) →
    ((b : ℕ) → b < length m.nodes → get_or v (heads_from + b) 0 ≡ get_or w (heads_from + b) 0) →
    ((k : ℕ) → k < n → (next_leaving v k ≡ next_leaving w k) × (listed v k ≡ listed w k)) → (Marked m n w → Marked m n v) → Chained w n m → Chained v n m
chained_same m w v lengths heads nexts marks c =
    record {
      heads = λ b b<. ap (λ (x : ℕ). x % list_weight) (heads b b<) ∙ c.heads b b<;
      nexts = λ k k<. (nexts k k<).0 ∙ c.nexts k k<;
      listing = (c.listing.0, listing_same lengths (λ i i<. (nexts i i<).1) c.listing.1);
      bare = λ b b< p.
          let e = c.bare b b< (rw (ap (λ (x : ℕ). x / list_weight) (heads b b<)) at p) in
          (e.0, e.1, omega (arith, lengths e.0 e.1, e.2), e.3);
      marks = marks c.marks;
    }
