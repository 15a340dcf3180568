-- Going along the stretch's lines after a search, while they are the only way.
use Prim.Native.Nat.{ℕ, ◌+◌, ◌-◌, ◌≤◌, ◌<◌}
use mathlib.Core.Path.{◌≡◌, sym, ◌∙◌, ap, subst}
use mathlib.Core.List.{List, [], ◌∷◌, ◌++◌}
use native.Mathlib.Omega.{arith}
use lib.ListN.{length, get_or}
use lib.Seq.{slice}
use Rattle.model.specs.Map.{Map}
use Rattle.model.specs.Lines.{line_at, Connected, total, lowest, first_of}
use Rattle.work_area.specs.Mirror.{mirror}
use Rattle.way_lengths.specs.Ways.{line, OnlyWay}
use Rattle.search_cells.specs.Area.{length_to, predecessor}
use Rattle.stretches.specs.Known.{Known}
use Rattle.sole_ways.specs.declared.ahead.Along.{Along}
use Rattle.sole_ways.specs.SoleWays.{SoleUnder, Follows, Advanced}
use Rattle.sole_ways.proofs.Slices.{first_of_slice, slice_more, total_then, lowest_then, total_slice_more, lowest_slice_more, next_follows}
use Rattle.sole_ways.proofs.Parts.{length_mirrored}
use Rattle.sole_ways.proofs.Steps.{step_on, step_off}

-- Position `at` is reached.
pub record Going (m : Map) (lines : ℕ) (s : List ℕ) (i to : ℕ) (w : List ℕ) (b : Along) (at : ℕ) : Type 0 where
  pub after : i < at
  pub near : length_to w (get_or s (at - 1) 0) ≤ b.limit
  pub only : OnlyWay (mirror m) b.class (line (get_or s i 0)) (line (get_or s (at - 1) 0)) (length_to w (get_or s (at - 1) 0)) (slice i at s)

module _ {m : Map} {lines : ℕ} {s : List ℕ} {i to : ℕ} {w : List ℕ} {b : Along} (f : Follows m lines s i w b) where
  pub going_start : {at : ℕ} → b.to ≡ at → Going m lines s i to w b at
  going_start e = rw (← e) (record { after = f.after; near = f.near; only = f.only })

  pub going_end : {at : ℕ} → at ≤ to → to ≤ at → Going m lines s i to w b at → Advanced m lines s i to w b at
  going_end h l g = record { after = g.after; inside = h; near = g.near; only = g.only; broken = λ less. absurd (omega arith) }

  module _ {at : ℕ} (known : Known lines s) (joint : Connected (mirror m) s) (inside : to ≤ length s) (room : at < to)
      (limit : total (mirror m) (slice i to s) ≤ b.limit) (class : lowest (mirror m) (slice i to s) ≤ b.class) (g : Going m lines s i to w b at) where
    abbrev here : ℕ
    here = get_or s at 0

    abbrev before : ℕ
    before = get_or s (at - 1) 0

    at_start : i < at
    at_start = g.after

    sum : total (mirror m) (slice i at s) ≡ length_to w before
    sum = g.only.sum

    within : length_to w before + (line_at (mirror m) here).length ≤ b.limit
    within =
        omega (
          arith,
          limit,
          sum,
          total_then (mirror m) s i (at + 1) to (omega (arith, at_start)) (omega arith) inside,
          total_slice_more s i at (omega (arith, at_start)) (omega arith) (mirror m),
        )

    low : (line_at (mirror m) here).frc ≤ b.class
    low =
        omega (
          arith,
          class,
          lowest_then (mirror m) s i (at + 1) to (omega (arith, at_start)) (omega arith) inside,
          lowest_slice_more s i at (omega (arith, at_start)) (omega arith) (mirror m),
        )

    more : slice i (at + 1) s ≡ slice i at s ++ here ∷ []
    more = slice_more s i at (omega (arith, at_start)) (omega arith)

    -- One step further.
    pub going_on : (length_to w here ≡ length_to w before + (line_at m here).length) × (predecessor w here ≡ before + 1) → Going m lines s i to w b (at + 1)
    going_on (e, p) =
        let q : at + 1 - 1 ≡ at = omega arith in
        let same : length_to w here ≡ length_to w before + (line_at (mirror m) here).length = omega (arith, e, length_mirrored m here) in
        let o = step_on f.searched (known (at - 1) (omega (arith, at_start))) g.near g.only
        (next_follows s at (omega (arith, at_start)) (omega arith) joint) low within same p in
        record {
          after = omega (arith, at_start);
          near = rw q (omega (arith, same, within));
          only = rw (q, more) o;
        }

    -- There is none.
    pub going_off : ((length_to w here ≡ length_to w before + (line_at m here).length) × (predecessor w here ≡ before + 1) → ⊥) →
        Advanced m lines s i to w b at
    going_off not_on =
        record {
          after = at_start;
          inside = omega arith;
          near = g.near;
          only = g.only;
          broken = λ less sole.
              step_off f.searched (known (at - 1) (omega (arith, at_start))) g.near g.only
              (next_follows s at (omega (arith, at_start)) (omega arith) joint) low within
              (ap first_of (sym more) ∙ first_of_slice s i (at + 1) (omega (arith, at_start)) (omega arith))
              (λ both. not_on (omega (arith, both.0, length_mirrored m here), both.1))
              (subst (λ (ls : List ℕ). SoleUnder (mirror m) b.class ls (line here)) more sole);
        }
