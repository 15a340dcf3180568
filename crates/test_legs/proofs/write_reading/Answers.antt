-- The ways that `ways_from` tells of are in the work area, and there is room for as many lines as a map has.
use Rattle.std.proofs.Common.{ℕ, sym, subst, arith}
use Rattle.std.proofs.lemmas.List.{length-take-le}
use Rattle.model.specs.Lines.{Connected}
use Rattle.work_area.specs.Mirror.{mirror}
use Rattle.work_area.proofs.Holding.{few, held_kept}
use Rattle.search_cells.specs.Area.{lines_from}
use Rattle.search_cells.proofs.Holding.{mirrored, stands_mirrored}
use Rattle.test_legs.proofs.write_reading.Goals as goal

pub search-requires : goal.search-requires
search-requires c =
    let p = c.requires.0 in
    let s = c.terminus_of.ensures p.0 c.args.lines (omega (arith, c.if-nodes-leg.false, p.2)) (omega (arith, c.if-lines-reading.false)) in
    (mirror p.0, mirrored p.1.held, p.1.chained, stands_mirrored p.0 c.args.lines c.terminus_of.result s, c.longest_leg-limit.ensures.within)

pub ways_from-requires-clause-by_index : goal.ways_from-requires-clause-by_index
ways_from-requires-clause-by_index c =
    let p = c.requires.0 in
    let s = c.terminus_of.ensures p.0 c.args.lines (omega (arith, c.if-nodes-leg.false, p.2)) (omega (arith, c.if-lines-reading.false)) in
    let f = c.search.ensures (mirror p.0) (mirrored p.1.held) p.1.chained (stands_mirrored p.0 c.args.lines c.terminus_of.result s) in
    (p.0, _, _, f.searched)

pub slice_bounds-write_lines-end : goal.slice_bounds-write_lines-end
slice_bounds-write_lines-end c =
    let p = c.requires.0 in
    let s = c.terminus_of.ensures p.0 c.args.lines (omega (arith, c.if-nodes-leg.false, p.2)) (omega (arith, c.if-lines-reading.false)) in
    let f = c.search.ensures (mirror p.0) (mirrored p.1.held) p.1.chained (stands_mirrored p.0 c.args.lines c.terminus_of.result s) in
    let t = c.in-One.ensures p.0 _ _ f.searched in
    omega (arith, t.3, few p.1.held, c.requires.1)

pub slice_bounds-write_lines-end-2 : goal.slice_bounds-write_lines-end-2
slice_bounds-write_lines-end-2 c =
    let p = c.requires.0 in
    let s = c.terminus_of.ensures p.0 c.args.lines (omega (arith, c.if-nodes-leg.false, p.2)) (omega (arith, c.if-lines-reading.false)) in
    let f = c.search.ensures (mirror p.0) (mirrored p.1.held) p.1.chained (stands_mirrored p.0 c.args.lines c.terminus_of.result s) in
    let t = c.in-One.ensures p.0 _ _ f.searched in
    sym (length-take-le _ _ (omega (arith, t.3, few p.1.held, c.requires.1)))

pub write_lines-requires : goal.write_lines-requires
write_lines-requires c =
    let p = c.requires.0 in
    let s = c.terminus_of.ensures p.0 c.args.lines (omega (arith, c.if-nodes-leg.false, p.2)) (omega (arith, c.if-lines-reading.false)) in
    let f = c.search.ensures (mirror p.0) (mirrored p.1.held) p.1.chained (stands_mirrored p.0 c.args.lines c.terminus_of.result s) in
    let t = c.in-One.ensures p.0 _ _ f.searched in
    let w = c.search.new.work in
    let fits = length-take-le c.in-One.count c.args.out.now (omega (arith, t.3, few p.1.held, c.requires.1)) in
    (p.0, _, held_kept (omega arith) f.kept p.1.held, subst (λ (k : ℕ). Connected p.0 (lines_from w c.args.reading.first k)) (sym fits) t.0.only.way.connected)

pub returns : goal.returns
returns c =
    let p = c.requires.0 in
    let s = c.terminus_of.ensures p.0 c.args.lines (omega (arith, c.if-nodes-leg.false, p.2)) (omega (arith, c.if-lines-reading.false)) in
    let f = c.search.ensures (mirror p.0) (mirrored p.1.held) p.1.chained (stands_mirrored p.0 c.args.lines c.terminus_of.result s) in
    let t = c.in-One.ensures p.0 _ _ f.searched in
    omega (arith, t.3, few p.1.held)
