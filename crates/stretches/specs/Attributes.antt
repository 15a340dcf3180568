-- A line by its numbers in the work area.
use Rattle.std.specs.Prelude.{ℕ, get_or}
use Rattle.model.specs.Map.{Line}
use Rattle.model.specs.Lines.{LineAttributes}
use Rattle.work_area.specs.Area.{line_numbers}

-- A line's attributes by its number `side`: the sector out or back.
unfoldable pub attributes_by : Line → ℕ → LineAttributes
attributes_by l side = record { frc = l.frc; fow = l.fow; sector = get_or (line_numbers l) side 0 }
