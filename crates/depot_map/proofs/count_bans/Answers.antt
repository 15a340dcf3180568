-- `count_bans` meets its contract: a refused count, or the stage that follows it.
use native.Mathlib.Omega.{arith}
use Rattle.model.specs.Map.{decode_lines}
use Rattle.buffers.proofs.Kept.{kept_none}
use Rattle.depot_map.proofs.Stages.{stage_faulty, stage_then}
use Rattle.depot_map.proofs.count_bans.Goals as goal

pub returns-in_err-count : goal.returns-in_err-count
unfolding decode_lines
returns-in_err-count c = stage_faulty c.from_residual.result c.from_residual.ensures.1 (c.in_err-count.ensures.goes _) kept_none

pub returns : goal.returns
unfolding decode_lines
returns c = stage_then (c.in_ok-count.ensures.goes _) kept_none (omega arith) c.read_bans.ensures
