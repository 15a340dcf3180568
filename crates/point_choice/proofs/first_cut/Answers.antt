-- A leg is taken, or it is outdone by the one that was.
use Rattle.std.proofs.Common.{◌≡◌, ◌+◌, arith}
use Rattle.point_choice.proofs.Scan.{begun, kept, taken, scanned}
use Rattle.point_choice.proofs.first_cut.Goals as goal
use Rattle.point_choice.proofs.first_cut.Goals.{then-good-i-eq1+then-after-least, then-good-i-eq1+else-after-least, else-good-i-eq1}

pub loop-j-init : goal.loop-j-init
loop-j-init c = begun

pub loop-j-preserved : goal.loop-j-preserved
loop-j-preserved c =
    let s = c.loop-j.invariant in
    elim c.if-good-i-eq1.branch [
      | then-good-i-eq1+then-after-least w ↦ rw (w.to-is, w.least-is) (taken s (omega arith) w.if-good-i-eq1.true (omega arith))
      | then-good-i-eq1+else-after-least w ↦ rw (w.to-is, w.least-is) (kept s (λ g. omega arith))
      | else-good-i-eq1 w ↦ rw (w.to-is, w.least-is) (kept s (λ g. omega arith))
    ]

pub returns : goal.returns
returns c =
    let e : c.loop-j.j ≡ c.args.n + 1 = omega arith in
    scanned (omega arith) c.requires.tells_fewest (rw e at c.loop-j.invariant) (omega arith)
