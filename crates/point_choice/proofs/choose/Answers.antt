-- There is a route from each position that the walk comes to, so a first cut is found there.
use Rattle.std.proofs.Common.{refl, arith}
use lib.ListN.{length-set}
use Rattle.point_choice.proofs.Routes.{told_none, told_some}
use Rattle.point_choice.proofs.Walk.{set_off, next, between, walked, come_home}
use Rattle.point_choice.proofs.choose.Goals as goal

pub returns-then-best-eq-NO_ROUTE : goal.returns-then-best-eq-NO_ROUTE
returns-then-best-eq-NO_ROUTE c = (told_none (omega arith) (c.fewest-best.ensures 0 (omega arith) (omega arith)) (omega arith), refl)

pub loop-i-init : goal.loop-i-init
loop-i-init c =
    record {
      within = omega arith;
      walked = set_off c.args.cuts.now (omega arith) (told_some (c.fewest-best.ensures 0 (omega arith) (omega arith)) (λ e. omega arith)).1;
    }

pub overflow_cast-cuts : goal.overflow_cast-cuts
overflow_cast-cuts c = omega (arith, between (next c.first_cut-i.ensures c.loop-i.invariant.walked).1)

pub loop-i-smaller : goal.loop-i-smaller
loop-i-smaller c = omega (arith, between (next c.first_cut-i.ensures c.loop-i.invariant.walked).1)

pub loop-i-preserved : goal.loop-i-preserved
loop-i-preserved c =
    let first = next c.first_cut-i.ensures c.loop-i.invariant.walked in
    record {
      within = omega (arith, between first.1);
      walked = walked (simp length-set (omega arith)) first c.loop-i.invariant.walked;
    }

pub returns : goal.returns
returns c = come_home c.args.cuts.now (omega arith) c.loop-i.invariant.walked
