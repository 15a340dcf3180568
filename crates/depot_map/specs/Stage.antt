-- What a stage of reading has to do: from some of the map's bytes on, all that follows.
use Rattle.std.specs.Prelude.{ℕ, ◌≡◌, List, Result, Ok, Err}
use Rattle.model.specs.Refusal.{refusal_of}
use Rattle.model.specs.declared.Refusal.{Refusal}
use Rattle.model.specs.Map.{Turn, MapAnswer, whole, refused}
use Rattle.model.specs.Work.{work_length}
use Rattle.buffers.specs.Kept.{Kept}
use Rattle.work_area.specs.Area.{BansHeld}
use Rattle.work_area.specs.Mirror.{mirror_turns}
use Rattle.work_area.specs.Held.{held_nodes, held_lines}
use Rattle.depot_map.specs.declared.Counts.{Counts}

-- The stage comes to a map: its nodes, lines and mirrored banned turns are in the work area.
pub record ComesTo (w : List ℕ) (nodes lines : ℕ) (stage : MapAnswer) : Type 0 where
  pub bans : List Turn
  pub comes : stage ≡ whole (record { nodes = held_nodes w nodes; lines = held_lines w lines; bans = bans })
  pub held : BansHeld w lines (mirror_turns bans)

-- What an answer says of the stage, with the work area that it leaves.
abbrev pub Answered : List ℕ → Result Counts Refusal → MapAnswer → Type 0
Answered w (Ok n) stage = ComesTo w n.nodes n.lines stage
Answered w (Err why) stage = stage ≡ refused (refusal_of why)

-- The stage is defined to be `stage`. The work area was `w` and is `v`.
pub record Stage (stage : MapAnswer) (low : ℕ) (w v : List ℕ) (r : Result Counts Refusal) : Type 0 where
  pub right : Answered v r stage
  pub kept : Kept low work_length w v
