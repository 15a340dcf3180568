-- `read_attributes` meets its contract: three numbers and twice two steps read, and then stored.
use mathlib.Core.Path.{◌∙◌}
use native.Mathlib.Numerals.{towards_suc}
use Rattle.depot_map.specs.Part.{read_attributes}
use Rattle.depot_map.proofs.Parts.{handed_on, part_refused, attributes_read}
use Rattle.depot_map.proofs.line.read_attributes.Goals as goal

pub returns-in_err-len : goal.returns-in_err-len
unfolding read_attributes
returns-in_err-len c =
    rw (handed_on c.from_residual.result c.from_residual.ensures.1) (part_refused λ rest. c.in_err-len.ensures.goes _)

pub returns-in_err-frc : goal.returns-in_err-frc
unfolding read_attributes
returns-in_err-frc c =
    rw (handed_on c.from_residual-in_err-frc.result c.from_residual-in_err-frc.ensures.1) (part_refused λ rest. c.in_ok-len.ensures.goes _ ∙ c.in_err-frc.ensures.goes _)

pub returns-in_err-fow : goal.returns-in_err-fow
unfolding read_attributes
returns-in_err-fow c =
    rw (handed_on c.from_residual-in_err-fow.result c.from_residual-in_err-fow.ensures.1) (part_refused λ rest. c.in_ok-len.ensures.goes _ ∙ c.in_ok-frc.ensures.goes _ ∙ c.in_err-fow.ensures.goes _)

pub returns-in_err-out : goal.returns-in_err-out
unfolding read_attributes
returns-in_err-out c =
    rw (handed_on c.from_residual-in_err-out.result c.from_residual-in_err-out.ensures.1) (part_refused λ rest. c.in_ok-len.ensures.goes _ ∙ c.in_ok-frc.ensures.goes _ ∙ c.in_ok-fow.ensures.goes _ ∙ c.in_err-out.ensures.goes _)

pub returns-in_err-back : goal.returns-in_err-back
unfolding read_attributes
returns-in_err-back c =
    rw (handed_on c.from_residual-in_err-back.result c.from_residual-in_err-back.ensures.1) (part_refused λ rest. c.in_ok-len.ensures.goes _ ∙ c.in_ok-frc.ensures.goes _ ∙ c.in_ok-fow.ensures.goes _ ∙ c.in_ok-out.ensures.goes _ ∙ c.in_err-back.ensures.goes _)

pub returns : goal.returns
returns c =
    attributes_read _ c.in_ok-len.ensures c.in_ok-frc.ensures c.in_ok-fow.ensures c.in_ok-out.ensures c.in_ok-back.ensures c.requires (simp towards_suc)
