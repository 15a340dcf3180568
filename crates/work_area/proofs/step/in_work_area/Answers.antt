-- Clearing an area that is too short changes nothing, and clearing what a step left of it is clearing it.
use Rattle.std.proofs.Common.{length, arith, ◌∙◌}
use lib.Seq.{length-take-le}
use Rattle.model.specs.Work.{work_length}
use Rattle.model.proofs.Cleared.{cleared_same, cleared_short}
use Rattle.work_area.proofs.step.in_work_area.Goals as goal

pub step-given-requires : goal.step-given-requires
step-given-requires g c =
    let n = length-take-le work_length c.args.work.now (omega (arith, c.if-work-lt-WORK_LENGTH.false)) in
    c.requires _ _ n

pub returns-then-work-lt-WORK_LENGTH-clause-area_cleared : goal.returns-then-work-lt-WORK_LENGTH-clause-area_cleared
returns-then-work-lt-WORK_LENGTH-clause-area_cleared g c = cleared_short c.args.work.now c.if-work-lt-WORK_LENGTH.true

pub returns-clause-area_cleared : goal.returns-clause-area_cleared
returns-clause-area_cleared g c =
    c.clear.ensures ∙ cleared_same c.args.work.now c.step-given.new.arg2 (omega (arith, c.if-work-lt-WORK_LENGTH.false)) c.step-given.auto.arg2
