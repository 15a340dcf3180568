-- `search_again` is safe: the work area is still ready for searches after each search.
use native.Mathlib.Omega.{arith}
use Rattle.work_area.specs.Mirror.{mirror}
use Rattle.work_area.proofs.Holding.{held_kept}
use Rattle.search_cells.proofs.Holding.{mirrored}
use Rattle.measured.proofs.search_again.Goals as goal

pub search-requires : goal.search-requires
search-requires c =
    let v = c.loop.invariant in (
      mirror v.0,
      mirrored v.1.held,
      v.1.chained,
      omega (arith, c.if-lines-wide.false, c.wide.ensures.0, c.wide-in-loop.ensures.0),
      omega (arith, c.if-limit-gt-GREATEST_LEG_LENGTH.false),
    )

pub loop-preserved : goal.loop-preserved
loop-preserved c =
    let v = c.loop.invariant in
    let f = c.search.ensures (mirror v.0) (mirrored v.1.held) v.1.chained (omega (arith, c.if-lines-wide.false, c.wide.ensures.0, c.wide-in-loop.ensures.0)) in
    (v.0, record { held = held_kept (omega arith) f.kept v.1.held; chained = f.chained })
