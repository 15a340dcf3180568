-- `fits` meets its contract: the tests of `fitting`, one after another.
use mathlib.Core.Path.{◌≡◌, sym, ap, ap₂, ◌∙◌}
use native.Mathlib.Nat.{add-zero}
use native.Mathlib.Omega.{arith}
use Prim.Native.Nat.{ℕ, ◌+◌}
use lib.ListN.{get_or}
use lib.Dec.{eqb}
use Rattle.work_area.specs.Area.{line_place, start_node, end_node}
use Rattle.work_area.specs.Held.{held_line}
use Rattle.work_area.proofs.Held.{listed_length}
use Rattle.banned_turns.proofs.Fitting.{no_first, no_second, held_fits}
use Rattle.banned_turns.proofs.fits.Goals.{then-lines-first-via-then-lines-first, then-lines-first-via-else-lines-first+then-lines-second}
use Rattle.banned_turns.proofs.fits.Goals as goal

pub returns-then-lines-first : goal.returns-then-lines-first
returns-then-lines-first c =
    let n = listed_length (held_line c.args.work.now) c.args.lines in
    elim c.then-lines-first.branch [
      | then-lines-first-via-then-lines-first w ↦ sym (no_first _ _ (omega (arith, n)))
      | then-lines-first-via-else-lines-first+then-lines-second w ↦ sym (no_second _ _ (omega (arith, n)) (omega (arith, n)))
    ]

pub returns : goal.returns
returns c =
    let a = c.args in
    let first : get_or a.work.now (line_place c.wide.result + end_node) 0 ≡ get_or a.work.now (line_place a.first + end_node) 0 =
    ap (λ (x : ℕ). get_or a.work.now (line_place x + end_node) 0) c.wide.ensures.0 in
    let second : get_or a.work.now (line_place c.wide-2.result + start_node) 0 ≡ get_or a.work.now (line_place a.second) 0 =
    ap (λ (x : ℕ). get_or a.work.now (line_place x + start_node) 0) c.wide-2.ensures.0 ∙ rw add-zero in
    ap₂ eqb (c.field.ensures ∙ first) (c.field-2.ensures ∙ second) ∙ sym (held_fits a.work.now a.lines a.first a.second (omega arith) (omega arith))
