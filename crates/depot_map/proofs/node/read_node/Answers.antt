-- `read_node` meets its contract: two numbers read, and then stored.
use mathlib.Core.Path.{◌∙◌}
use native.Mathlib.Omega.{arith}
use native.Mathlib.Numerals.{towards_suc}
use Rattle.model.specs.Map.{read_node}
use Rattle.depot_map.proofs.Parts.{handed_on, part_refused, node_read}
use Rattle.depot_map.proofs.node.read_node.Goals as goal

pub returns-in_err-lon : goal.returns-in_err-lon
unfolding read_node
returns-in_err-lon c =
    rw (handed_on c.from_residual.result c.from_residual.ensures.1) (part_refused λ rest. c.in_err-lon.ensures.goes _)

pub returns-in_err-lat : goal.returns-in_err-lat
unfolding read_node
returns-in_err-lat c =
    rw (handed_on c.from_residual-in_err-lat.result c.from_residual-in_err-lat.ensures.1) (part_refused λ rest. c.in_ok-lon.ensures.goes _ ∙ c.in_err-lat.ensures.goes _)

pub returns : goal.returns
returns c = node_read _ c.in_ok-lon.ensures c.in_ok-lat.ensures (omega arith) (simp towards_suc)
