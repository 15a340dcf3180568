-- The part that is lent is the leg.
use Rattle.std.proofs.Common.{◌∙◌}
use Rattle.reference_bytes.proofs.Cutting.{ordered, inside, part_is}
use Rattle.reference_bytes.proofs.leg_of.Goals as goal

pub part-requires : goal.part-requires
part-requires c =
    let k = c.requires.by_index.2 in
    let t = c.requires.t_lt_legs.0 in
    (ordered k _ t c.wide.ensures.0 c.wide-2.ensures.0, inside k _ t c.wide.ensures.0 c.wide-2.ensures.0)

pub returns-clause-leg : goal.returns-clause-leg
returns-clause-leg c m cs k = c.part.ensures.0 ∙ part_is k c.args.t c.requires.t_lt_legs.0 c.wide.ensures.0 c.wide-2.ensures.0
