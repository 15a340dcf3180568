-- `read_line` meets its contract: the two ends, that they differ, and the attributes.
use mathlib.Core.Path.{◌∙◌}
use native.Mathlib.Omega.{arith}
use native.Mathlib.Numerals.{towards_suc}
use Rattle.model.specs.Map.{read_line}
use Rattle.depot_map.proofs.Parts.{handed_on, part_refused, line_equal, line_read}
use Rattle.depot_map.proofs.line.read_line.Goals as goal

pub returns-in_err-start : goal.returns-in_err-start
unfolding read_line
returns-in_err-start c =
    rw (handed_on c.from_residual.result c.from_residual.ensures.1) (part_refused λ rest. c.in_err-start.ensures.goes _)

pub returns-in_err-end : goal.returns-in_err-end
unfolding read_line
returns-in_err-end c =
    rw (handed_on c.from_residual-in_err-end.result c.from_residual-in_err-end.ensures.1) (part_refused λ rest. c.in_ok-start.ensures.goes _ ∙ c.in_err-end.ensures.goes _)

pub returns-then-start-end : goal.returns-then-start-end
returns-then-start-end c = line_equal _ c.in_ok-start.ensures c.in_ok-end.ensures c.if-start-end.true

pub returns : goal.returns
returns c =
    line_read _ c.in_ok-start.ensures c.in_ok-end.ensures c.if-start-end.false (omega arith) c.read_attributes.ensures (simp towards_suc)
