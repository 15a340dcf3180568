-- `read_ban` meets its contract: two numbers.
use mathlib.Core.Path.{◌∙◌}
use Rattle.model.specs.Map.{read_ban}
use Rattle.depot_map.proofs.Parts.{handed_on}
use Rattle.depot_map.proofs.ban.read_ban.Goals as goal

pub returns-in_err-first : goal.returns-in_err-first
unfolding read_ban
returns-in_err-first c =
    rw (handed_on c.from_residual.result c.from_residual.ensures.1) (record { goes = λ rest. c.in_err-first.ensures.goes _ })

pub returns-in_err-second : goal.returns-in_err-second
unfolding read_ban
returns-in_err-second c =
    rw (handed_on c.from_residual-in_err-second.result c.from_residual-in_err-second.ensures.1) (record { goes = λ rest. c.in_ok-first.ensures.goes _ ∙ c.in_err-second.ensures.goes _ })

pub returns : goal.returns
unfolding read_ban
returns c = record { goes = λ rest. c.in_ok-first.ensures.goes _ ∙ c.in_ok-second.ensures.goes _ }
