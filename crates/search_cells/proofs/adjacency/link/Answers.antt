-- Each turn puts one line more into its list.
use Rattle.std.proofs.Common.{◌≡◌, ◌∙◌, ℕ, arith}
use Rattle.search_cells.proofs.Leaving.{link_step, linked, nodes_in, head_small}
use Rattle.buffers.proofs.Kept.{kept_then, kept_within}
use Rattle.search_cells.proofs.Holding.{held_kept, few}
use Rattle.search_cells.proofs.adjacency.link.Goals as goal

pub overflow_add-work-in-loop-i : goal.overflow_add-work-in-loop-i
overflow_add-work-in-loop-i c =
    let p = c.requires in
    let h = held_kept (omega arith) c.fill.ensures.kept p.1 in
    let l = c.loop-i.invariant p.0 h in
    let t = c.loop-i-test.true in
    let n = nodes_in h t l in
    let n≤ = few h in
    let v = head_small h t l c.wide-v.result (omega (arith, c.wide-v.ensures.0, c.field.ensures, n.0, n.1)) in
    omega arith

pub loop-i-preserved : goal.loop-i-preserved
loop-i-preserved c =
    λ m h. link_step h c.loop-i-test.true (c.loop-i.invariant m h) (c.wide-v.ensures.0 ∙ c.field.ensures)

pub returns : goal.returns
returns c =
    λ m h.
    let k = c.fill.ensures.kept in
    let e : ◌≡◌ {A = ℕ} c.loop-i.i c.args.lines = omega arith in
    let s = rw e at (c.loop-i.invariant m (held_kept (omega arith) k h)) in
    record { chained = (linked (few h) s).chained; kept = kept_then (kept_within (omega arith) (omega arith) k) s.kept }
