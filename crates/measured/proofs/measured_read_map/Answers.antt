-- `measured_read_map` meets its contract: what `read_map` answers, by its number.
use mathlib.Core.Path.{refl, ◌∙◌}
use Rattle.measured.proofs.Refused.{short, full, map_number}
use Rattle.measured.proofs.measured_read_map.Goals as goal

pub returns-then-work-lt-WORK_LENGTH : goal.returns-then-work-lt-WORK_LENGTH
returns-then-work-lt-WORK_LENGTH c = short _ _ c.if-work-lt-WORK_LENGTH.true

pub returns : goal.returns
returns c = c.refusal_number.ensures ∙ map_number _ _ _ c.read_map.ensures.answers ∙ full _ _ c.if-work-lt-WORK_LENGTH.false refl
