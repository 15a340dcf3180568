-- `count_lines` meets its contract: a refused count, or the stage that follows it.
use native.Mathlib.Omega.{arith}
use Rattle.model.specs.Map.{decode_nodes}
use Rattle.buffers.proofs.Kept.{kept_none}
use Rattle.depot_map.proofs.Stages.{stage_faulty, stage_then}
use Rattle.depot_map.proofs.count_lines.Goals as goal

pub returns-in_err-lines : goal.returns-in_err-lines
unfolding decode_nodes
returns-in_err-lines c = stage_faulty c.from_residual.result c.from_residual.ensures.1 (c.in_err-lines.ensures.goes _) kept_none

pub returns : goal.returns
unfolding decode_nodes
returns c = stage_then (c.in_ok-lines.ensures.goes _) kept_none (omega arith) c.read_lines.ensures
