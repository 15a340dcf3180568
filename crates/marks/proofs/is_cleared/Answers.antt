-- The numbers that a call uses are 0, and the rest decides.
use Rattle.std.proofs.Common.{arith}
use Rattle.buffers.proofs.Decides.{decides_same}
use Rattle.marks.proofs.is_cleared.Goals as goal

pub returns : goal.returns
returns c =
    decides_same
    (λ rest. record { long = omega arith; zeros = λ k b. c.loop-i.invariant k (omega arith); rest = rest })
    (λ all. all.rest)
    c.is_kept.result
    c.is_kept.ensures
