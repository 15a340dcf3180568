-- The search is of the part's class at least, and goes as far as the part is long.
use Rattle.std.proofs.Common.{ℕ, subst, arith}
use Rattle.sole_ways.proofs.Testing.{searched_for}
use Rattle.search_cells.proofs.Holding.{mirrored}
use Rattle.search.specs.Promises.{Finished}
use Rattle.way_lengths.specs.Ways.{line}
use Rattle.work_area.specs.Mirror.{mirror}
use Rattle.sole_ways.proofs.ahead.search_ahead.Goals as goal

pub search-requires : goal.search-requires
search-requires c =
    let q = c.requires.set in
    let h = q.2.some in (
      mirror q.0,
      mirrored q.1.held,
      q.1.chained,
      omega (arith, c.wide.ensures.0, q.2.known c.args.part.from (omega (arith, q.2.measured.inside))),
      omega arith,
    )

pub returns : goal.returns
returns c m set t =
    let a = c.args in
    let far = c.look_ahead-far in
    let h = t.some in
    let first< = t.known a.part.from (omega (arith, t.measured.inside)) in
    let found = c.search.ensures (mirror m) (mirrored set.held) set.chained (omega (arith, c.wide.ensures.0, first<)) in
    searched_for t set
    (subst (λ (x : ℕ). Finished (mirror m) a.stretch.lines far.result.class (line x) c.min-limit.result a.work.now c.search.new.work) c.wide.ensures.0 found)
    far.ensures.0 (omega (arith, far.ensures.1, t.within)) far.ensures.2
