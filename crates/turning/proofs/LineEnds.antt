-- The lines turned round one by one: two numbers of a line swapped, and two more.
use Prim.Native.Nat.{ℕ, ◌+◌, ◌≤◌, ◌<◌}
use mathlib.Core.Path.{◌≡◌, sym, ap, ◌∙◌}
use mathlib.Core.List.{List}
use mathlib.Core.Logic.{◌≢◌}
use Rattle.std.specs.List.{SwappedAt}
use native.Mathlib.Nat.{add-zero}
use native.Mathlib.Omega.{arith}
use lib.ListN.{length, get_or}
use lib.Dec.{lit<}
use Rattle.model.specs.Map.{Line, Map}
use Rattle.model.specs.Lines.{line_at}
use Rattle.buffers.specs.Kept.{Kept}
use Rattle.buffers.proofs.Kept.{kept_over}
use Rattle.buffers.proofs.Cases.{here_or}
use Rattle.work_area.specs.Area.{line_size, line_place, start_node, end_node, sector_out, sector_back, line_numbers, Holds}
use Rattle.work_area.specs.Held.{line_from, held_line}
use Rattle.work_area.specs.Mirror.{mirror_line, mirror}
use Rattle.work_area.proofs.Held.{line_path, line_number, line_same}
use Rattle.work_area.proofs.Mirrored.{line_mirrored}
use Rattle.turning.specs.Turned.{EndsSwapped}

-- Two numbers have changed places, and nothing else is changed.
pub record Swapped (a b : ℕ) (w v : List ℕ) : Type 0 where
  pub one : get_or v a 0 ≡ get_or w b 0
  pub other : get_or v b 0 ≡ get_or w a 0
  pub others : (k : ℕ) → k ≢ a → k ≢ b → get_or v k 0 ≡ get_or w k 0
  pub same : length v ≡ length w

-- That is what `swap` does.
pub swapped : {a b : ℕ} {w v : List ℕ} → length v ≡ length w → SwappedAt w v a b → Swapped a b w v
swapped same at = record { one = at.0 0; other = at.1 0; others = λ k. at.2 k 0; same = same }

-- A line of which both pairs are swapped.
module _ {w v u : List ℕ} (at : ℕ) (ends : Swapped (at + start_node) (at + end_node) w v) (sectors : Swapped (at + sector_out) (at + sector_back) v u) where
  between : (k : ℕ) → k < sector_out → get_or u (at + k) 0 ≡ get_or v (at + k) 0
  between k k< = sectors.others (at + k) (omega arith) (omega arith)

  beside : (k : ℕ) → end_node < k → get_or v (at + k) 0 ≡ get_or w (at + k) 0
  beside k k< = ends.others (at + k) (omega arith) (omega arith)

  apart : (k : ℕ) → end_node < k → k < sector_out → get_or u (at + k) 0 ≡ get_or w (at + k) 0
  apart k a b = between k b ∙ beside k a

  pub line_swapped : line_from u at ≡ mirror_line (line_from w at)
  unfolding line_from
  line_swapped =
      line_path (rw add-zero at (between 0 (lit< tt) ∙ ends.one)) (rw add-zero at (between 1 (lit< tt) ∙ ends.other)) (apart 2 (lit< tt) (lit< tt))
      (apart 3 (lit< tt) (lit< tt)) (apart 4 (lit< tt) (lit< tt)) (sectors.one ∙ beside 6 (lit< tt)) (sectors.other ∙ beside 5 (lit< tt))

  -- Nothing beside the line is changed.
  pub swapped_kept : Kept at (at + line_size) w u
  swapped_kept =
      record {
        same = sectors.same ∙ ends.same;
        below = λ k h. sectors.others k (omega arith) (omega arith) ∙ ends.others k (omega arith) (omega arith);
        above = λ k h. sectors.others k (omega arith) (omega arith) ∙ ends.others k (omega arith) (omega arith);
      }

-- ---- the lines below `l`

-- A line behind a change.
line_behind : {low high : ℕ} {w v : List ℕ} (l : ℕ) → high ≤ line_place l → Kept low high w v → held_line v l ≡ held_line w l
unfolding held_line line_from
line_behind {w = w} {v = v} l h kept =
    let f : (k : ℕ) → get_or v (line_place l + k) 0 ≡ get_or w (line_place l + k) 0 = λ k. kept.above (line_place l + k) (omega arith) in
    line_path (kept.above (line_place l) h) (f 1) (f 2) (f 3) (f 4) (f 5) (f 6)

pub swapped_more : {w v u x : List ℕ} {l : ℕ} → EndsSwapped l w v → Swapped (line_place l + start_node) (line_place l + end_node) v u →
    Swapped (line_place l + sector_out) (line_place l + sector_back) u x → EndsSwapped (l + 1) w x
unfolding held_line
swapped_more {w} {v} {u} {x} {l} so_far ends sectors =
    let kept : Kept (line_place l) (line_place l + line_size) v x = swapped_kept (line_place l) ends sectors in
    record {
      turned = here_or (λ k. k < l + 1 → held_line x k ≡ mirror_line (held_line w k)) l
          (λ l<. line_swapped (line_place l) ends sectors ∙ ap mirror_line (line_behind l (omega arith) so_far.kept))
          (λ k d k<. line_same kept k (omega arith) ∙ so_far.turned k (omega arith));
      kept = kept_over (omega arith) so_far.kept kept;
    }

-- ---- all lines

-- The lines of the mirrored map stand in the area once those of the map are turned round.
module _ {w v : List ℕ} {nodes lines : ℕ} {m : Map} (h : Holds w nodes lines m) (swapped : EndsSwapped lines w v) where
  line_was : (i : ℕ) → i < lines → held_line w i ≡ line_at m i
  unfolding held_line line_from
  line_was i i< =
      let f : (k : ℕ) → k < line_size → get_or w (line_place i + k) 0 ≡ get_or (line_numbers (line_at m i)) k 0 = λ k k<. h.line_held i k i< k< in
      line_path (rw add-zero at (f 0 (lit< tt))) (f 1 (lit< tt)) (f 2 (lit< tt)) (f 3 (lit< tt)) (f 4 (lit< tt)) (f 5 (lit< tt)) (f 6 (lit< tt))

  pub lines_turned : (i k : ℕ) → i < lines → k < line_size → get_or v (line_place i + k) 0 ≡ get_or (line_numbers (line_at (mirror m) i)) k 0
  unfolding held_line
  lines_turned i k i< k< =
      line_number v (line_place i) k k<
      ∙ ap (λ (x : Line). get_or (line_numbers x) k 0) (swapped.turned i i< ∙ ap mirror_line (line_was i i<) ∙ sym (line_mirrored m i))
