-- `banned` meets its contract: the chain of the line is asked.
use mathlib.Core.Path.{◌∙◌}
use Rattle.work_area.specs.Mirror.{mirror_turns}
use Rattle.work_area.proofs.Mirrored.{turn_mirrored}
use Rattle.banned_turns.proofs.banned.Goals as goal

pub returns : goal.returns
returns c = λ bans held. c.in_chain.ensures (mirror_turns bans) _ held (c.bans_from.ensures (mirror_turns bans) held) ∙ turn_mirrored bans _ _
