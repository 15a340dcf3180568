-- The lines of a way, written from the first to the last.
use Rattle.work_area.specs.Area.{Held}
use Rattle.model.specs.Map.{greatest_line_count, Map}
use Rattle.search_cells.specs.Area.{lines_from, predecessor}
use Prim.Native.Nat.{ℕ, zero, suc, ◌+◌, ◌-◌, ◌<◌}
use mathlib.Core.Path.{◌≡◌, refl, sym, ◌∙◌, ap}
use mathlib.Core.List.{List, [], ◌∷◌, ◌++◌}
use native.Mathlib.Omega.{arith}
use lib.ListN.{length, set, take}
use lib.Seq.{append_snoc, take-suc-set}
use Rattle.model.specs.Lines.{Connected, single, linked}
use Rattle.work_area.proofs.Holding.{few}

-- All are numbers of lines.
abbrev pub Numbers : List ℕ → Type 0
Numbers [] = Unit {0}
Numbers (l ∷ ls) = (l < greatest_line_count) × Numbers ls

pub numbers : {m : Map} {w : List ℕ} {n : ℕ} {ls : List ℕ} → Held w n m → Connected m ls → Numbers ls
numbers h (single k) = (omega (arith, few h), tt)
numbers h (linked k f c) = (omega (arith, few h), numbers h c)

pub numbers_first : (w : List ℕ) (at left : ℕ) → 0 < left → Numbers (lines_from w at left) →
    Numbers (lines_from w (predecessor w at - 1) (left - 1)) × (at < greatest_line_count)
numbers_first w at zero pos h = absurd (omega arith)
numbers_first w at (suc j) pos h = let z : suc j - 1 ≡ j = omega arith in (rw z h.1, h.0)

-- The next line to be written, and those behind it.
apart : (w : List ℕ) (at left : ℕ) → 0 < left → lines_from w at left ≡ at ∷ lines_from w (predecessor w at - 1) (left - 1)
apart w at zero pos = absurd (omega arith)
apart w at (suc j) pos = let z : suc j - 1 ≡ j = omega arith in rw z refl

-- `all` is what is to be written: what is, and then the lines still to be written.
pub write_step : (w all out : List ℕ) (at i n : ℕ) → i < n → n ≡ length out → all ≡ take i out ++ lines_from w at (n - i) →
    all ≡ take (i + 1) (set out i at) ++ lines_from w (predecessor w at - 1) (n - (i + 1))
write_step w all out at i n i< fits e =
    let rest = lines_from w (predecessor w at - 1) (n - (i + 1)) in
    let z : n - i - 1 ≡ n - (i + 1) = omega arith in
    let one : i + 1 ≡ suc i = omega arith in
    e ∙ ap (λ (l : List ℕ). take i out ++ l) (rw z at (apart w at (n - i) (omega arith))) ∙ sym (append_snoc (take i out) at rest)
    ∙ ap (λ (l : List ℕ). l ++ rest) (sym (ap (λ (k : ℕ). take k (set out i at)) one ∙ take-suc-set out i at (omega arith)))
