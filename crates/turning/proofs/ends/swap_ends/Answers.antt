-- Each turn swaps two pairs of numbers of one line.
use Rattle.turning.proofs.LineEnds.{swapped, swapped_more}
use Rattle.turning.proofs.ends.swap_ends.Goals as goal

pub loop-l-preserved : goal.loop-l-preserved
loop-l-preserved c =
    swapped_more c.loop-l.invariant
    (swapped c.swap.ensures.len c.swap.ensures.by_index)
    (swapped c.swap-in-loop-l.ensures.len c.swap-in-loop-l.ensures.by_index)
