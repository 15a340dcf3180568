-- `field` meets its contract, by cases of the number.
use mathlib.Core.Path.{sym}
use native.Mathlib.Omega.{arith}
use Rattle.model.proofs.Ranges.{field_faulty, field_low, field_high, field_in}
use Rattle.depot_map.proofs.field.field.Goals as goal
use Rattle.depot_map.proofs.field.field.Goals.{then-x-low-via-then-x-low, then-x-low-via-else-x-low+then-high-x}

pub returns-in_default : goal.returns-in_default
returns-in_default c = record { goes = λ rest. field_faulty _ _ _ _ rest (sym c.in_default.ensures); within = tt }

pub returns-then-x-low : goal.returns-then-x-low
returns-then-x-low c =
    let read = sym c.in-Some.ensures in
    elim c.then-x-low.branch [
      | then-x-low-via-then-x-low w ↦ record { goes = λ rest. field_low _ _ _ _ rest _ _ read w.if-x-low.true; within = tt }
      | then-x-low-via-else-x-low+then-high-x w ↦ record { goes = λ rest. field_high _ _ _ _ rest _ _ read w.if-x-low.false w.if-high-x.true; within = tt }
    ]

pub returns : goal.returns
returns c =
    record { goes = λ rest. field_in _ _ _ _ rest _ _ (sym c.in-Some.ensures) (omega arith) (omega arith); within = (omega arith, omega arith) }
