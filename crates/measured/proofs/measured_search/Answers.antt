-- `measured_search` meets its contract: what `open_map` answers, by its number.
use mathlib.Core.Path.{◌∙◌}
use Rattle.measured.specs.Refusal.{refused_by}
use Rattle.measured.proofs.Refused.{short, full}
use Rattle.measured.proofs.measured_search.Goals as goal

pub returns-then-work-lt-WORK_LENGTH : goal.returns-then-work-lt-WORK_LENGTH
returns-then-work-lt-WORK_LENGTH c = short _ _ c.if-work-lt-WORK_LENGTH.true

pub returns-in-Ok : goal.returns-in-Ok
unfolding refused_by
returns-in-Ok c = full _ _ c.if-work-lt-WORK_LENGTH.false c.in-Ok.ensures.answers.decodes

pub returns-in-Err : goal.returns-in-Err
unfolding refused_by
returns-in-Err c = c.number_of.ensures ∙ full _ _ c.if-work-lt-WORK_LENGTH.false c.in-Err.ensures.answers
