-- A part of a stretch with one line more.
use Prim.Native.Nat.{ℕ, ◌+◌, ◌≤◌, ◌<◌, max}
use mathlib.Core.Path.{◌≡◌, sym, ◌∙◌, ap, ap₂}
use mathlib.Core.List.{List}
use native.Mathlib.Omega.{arith}
use lib.ListN.{length, get_or}
use Rattle.model.specs.Map.{Line, Map, greatest_line_count}
use Rattle.model.specs.Lines.{line_at}
use Rattle.work_area.specs.Mirror.{mirror}
use Rattle.work_area.proofs.Mirrored.{line_mirrored}
use Rattle.search_cells.specs.Area.{Set}
use Rattle.stretches.specs.Known.{Known}
use Rattle.sole_ways.specs.declared.part.Part.{Part}
use Rattle.sole_ways.specs.SoleWays.{Measures}
use Rattle.sole_ways.proofs.Slices.{total_slice_more, lowest_slice_more, total_slice_none, lowest_slice_none}

-- A line of the mirrored map is as long, and of the same class.
pub length_mirrored : (m : Map) (l : ℕ) → (line_at (mirror m) l).length ≡ (line_at m l).length
length_mirrored m l = ap (λ (x : Line). x.length) (line_mirrored m l)

pub frc_mirrored : (m : Map) (l : ℕ) → (line_at (mirror m) l).frc ≡ (line_at m l).frc
frc_mirrored m l = ap (λ (x : Line). x.frc) (line_mirrored m l)

-- No line.
pub measures_none : (m : Map) (s : List ℕ) (i : ℕ) → i ≤ length s → Measures m s (record { from = i; to = i; class = 0; length = 0 })
measures_none m s i h =
    record { ordered = omega arith; inside = h; classes = lowest_slice_none m s i; sum = total_slice_none m s i }

-- One line more, of this class and length.
pub measures_more : (m : Map) (s : List ℕ) (p : Part) (frc size : ℕ) → p.to < length s → frc ≡ (line_at m (get_or s p.to 0)).frc →
    size ≡ (line_at m (get_or s p.to 0)).length → Measures (mirror m) s p →
    Measures (mirror m) s (record { from = p.from; to = p.to + 1; class = max p.class frc; length = p.length + size })
measures_more m s p frc size inside class len x =
    record {
      ordered = omega (arith, x.ordered);
      inside = omega arith;
      classes = ap₂ max x.classes (class ∙ sym (frc_mirrored m (get_or s p.to 0))) ∙ sym (lowest_slice_more s p.from p.to x.ordered inside (mirror m));
      sum = omega (
        arith,
        x.sum,
        len,
        length_mirrored m (get_or s p.to 0),
        total_slice_more s p.from p.to x.ordered inside (mirror m),
      );
    }

-- A line of the stretch is one that the work area has room for.
pub line_few : {m : Map} {lines : ℕ} {w : List ℕ} (s : List ℕ) → Set m lines w → Known lines s → (i : ℕ) → i < length s → get_or s i 0 < greatest_line_count
line_few s set known i h =
    let f = set.held.formed in omega (arith, known i h, f.few_lines, set.held.line_count)
