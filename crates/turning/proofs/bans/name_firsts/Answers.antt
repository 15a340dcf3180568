-- Each turn walks along one chain and leaves it empty.
use Rattle.std.proofs.Common.{◌≡◌, ℕ, arith}
use Rattle.turning.proofs.Firsts.{naming_all}
use Rattle.turning.proofs.bans.name_firsts.Goals as goal

pub returns : goal.returns
returns c =
    λ bans held known.
    let e : ◌≡◌ {A = ℕ} c.loop-l.l c.args.lines = omega arith in
    naming_all known (rw e at (c.loop-l.invariant bans held))
