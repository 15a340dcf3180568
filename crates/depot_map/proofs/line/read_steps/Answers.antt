-- `read_steps` meets its contract: two numbers read, and their sector where they are not both 0.
use Prim.Native.Nat.{ℕ}
use mathlib.Core.Path.{sym, ap, ◌∙◌}
use lib.ListN.{drop}
use Rattle.model.specs.Map.{read_steps}
use Rattle.model.proofs.Ranges.{stops, passes}
use Rattle.depot_map.proofs.Parts.{handed_on}
use Rattle.depot_map.proofs.line.read_steps.Goals as goal

pub returns-in_err-east : goal.returns-in_err-east
unfolding read_steps
returns-in_err-east c =
    rw (handed_on c.from_residual.result c.from_residual.ensures.1) (record { goes = λ rest. c.in_err-east.ensures.goes _ })

pub returns-in_err-north : goal.returns-in_err-north
unfolding read_steps
returns-in_err-north c =
    rw (handed_on c.from_residual-in_err-north.result c.from_residual-in_err-north.ensures.1) (record { goes = λ rest. c.in_ok-east.ensures.goes _ ∙ c.in_err-north.ensures.goes _ })

pub returns-then-both_zero : goal.returns-then-both_zero
unfolding read_steps
returns-then-both_zero c =
    record { goes = λ rest. c.in_ok-east.ensures.goes _ ∙ c.in_ok-north.ensures.goes _ ∙ stops _ 24 _ (sym c.both_zero.ensures ∙ c.if-both_zero.true) }

pub returns : goal.returns
unfolding read_steps
returns c =
    record {
      goes = λ rest.
          c.in_ok-east.ensures.goes _ ∙ c.in_ok-north.ensures.goes _ ∙ passes _ 24 _ (sym c.both_zero.ensures ∙ c.if-both_zero.false)
          ∙ ap (λ (s : ℕ). rest s (drop c.in_ok-north.north.next c.args.map.now)) (sym c.sector.ensures);
    }
