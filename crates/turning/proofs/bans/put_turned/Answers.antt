-- Each turn puts one turn the other way round.
use Rattle.std.proofs.Common.{◌≡◌, ℕ, length, arith}
use Rattle.turning.proofs.Pairs.{turning_more, turning_all}
use Rattle.turning.proofs.bans.put_turned.Goals as goal

pub returns : goal.returns
returns c =
    λ bans paired known e.
    let n : ◌≡◌ {A = ℕ} c.loop-i.i (length bans) = omega (arith, e) in
    turning_all (rw n at (c.loop-i.invariant bans paired known e))

pub loop-i-preserved : goal.loop-i-preserved
loop-i-preserved c =
    λ bans paired known e.
    turning_more paired known c.requires.work_length_in_bounds.1 (omega (arith, e)) (c.loop-i.invariant bans paired known e) c.put_ban.ensures
