-- `read_nodes` meets its contract: after `i` turns the first `i` nodes are in the work area.
use native.Mathlib.Omega.{arith}
use Rattle.depot_map.proofs.Stages.{nodes_none, nodes_off, nodes_on, nodes_end}
use Rattle.depot_map.proofs.read_nodes.Goals as goal

pub loop-i-init : goal.loop-i-init
loop-i-init c = nodes_none _ _ _ _

pub returns-in_err-at : goal.returns-in_err-at
returns-in_err-at c =
    nodes_off c.loop-i.invariant c.from_residual.result (omega arith) (omega arith) c.from_residual.ensures.1 c.in_err-at.ensures

pub loop-i-preserved : goal.loop-i-preserved
loop-i-preserved c = nodes_on c.loop-i.invariant (omega arith) (omega arith) c.in_ok-at.ensures

pub returns : goal.returns
returns c = nodes_end c.loop-i.invariant (omega arith) c.count_lines.ensures
