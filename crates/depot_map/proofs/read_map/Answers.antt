-- `read_map` meets its contract: a refused count, or the stage of the nodes.
use native.Mathlib.Omega.{arith}
use Rattle.model.specs.Map.{decode}
use Rattle.buffers.proofs.Kept.{kept_none}
use Rattle.depot_map.proofs.Stages.{stage_faulty, stage_then, map_is_read}
use Rattle.depot_map.proofs.read_map.Goals as goal

pub returns-in_err-nodes : goal.returns-in_err-nodes
unfolding decode
returns-in_err-nodes c = map_is_read c.requires (stage_faulty c.from_residual.result c.from_residual.ensures.1 (c.in_err-nodes.ensures.goes _) kept_none)

pub returns : goal.returns
unfolding decode
returns c = map_is_read c.requires (stage_then (c.in_ok-nodes.ensures.goes _) kept_none (omega arith) c.read_nodes.ensures)
