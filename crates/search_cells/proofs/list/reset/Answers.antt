-- What `Resetting` says of the places gone through is carried over each turn, and says at the end that nothing is reached.
use Rattle.std.proofs.Common.{◌≡◌, ℕ, ◌+◌, ◌-◌, ◌<◌, ◌∙◌, refl, List, length, get_or, arith, rules}
use Rattle.model.specs.Map.{Map}
use Rattle.work_area.specs.Area.{line_place, start_node, heads_from}
use Rattle.search_cells.specs.Area.{Mirrored, Chained, listed}
use Rattle.search_cells.proofs.Reached.{count_le}
use Rattle.search_cells.proofs.Holding.{few}
use Rattle.search_cells.proofs.Resetting.{Resetting, listed_le, at_end, ends_in, resetting_step, reset_done}
use Rattle.search_cells.proofs.list.reset.Goals as goal

-- The cell of the node where the line at place `i` ends lies in the work area.
end_in_area : {n i x a : ℕ} {u w : List ℕ} → (m : Map) × Mirrored u n m × Chained u n m → i < n →
    ((m : Map) → Mirrored u n m → (ch : Chained u n m) → Resetting m n ch.listing.0 i u w) →
    x ≡ listed w i → (x ≡ 0 → ⊥) → a ≡ get_or w (line_place (x - 1) + start_node) 0 → heads_from + a < length w
end_in_area {x = x} p i< k e d at =
    let f = p.1.full in
    let s = k p.0 p.1 p.2 in
    let l = s.kept.same in
    let small = ends_in p.1 p.2.listing.1 i< s (x - 1) _ (omega arith) at in
    omega arith

pub returns-then-x-eq0 : goal.returns-then-x-eq0
returns-then-x-eq0 c =
    λ m h ch.
    let k = c.loop-i.invariant m h ch in
    let e = c.line_at-x.ensures in
    let t = c.if-x-eq0.true in
    reset_done h ch (at_end h ch.listing.1 c.loop-i-test.true k (omega arith)) k

pub field-requires : goal.field-requires
field-requires c =
    let p = c.requires in
    let n≤ = few p.1 in
    let le = listed_le p.1 p.2.listing.1 c.loop-i-test.true (c.loop-i.invariant p.0 p.1 p.2) in
    let e = c.line_at-x.ensures in
    let d = c.if-x-eq0.false in
    (omega arith, search rules, omega arith)

pub bounds-work-v : goal.bounds-work-v
bounds-work-v c =
    end_in_area c.requires c.loop-i-test.true c.loop-i.invariant c.line_at-x.ensures c.if-x-eq0.false (c.wide-v.ensures.0 ∙ c.field.ensures)

pub bounds-work-v-in-loop-i : goal.bounds-work-v-in-loop-i
bounds-work-v-in-loop-i c =
    end_in_area c.requires c.loop-i-test.true c.loop-i.invariant c.line_at-x.ensures c.if-x-eq0.false (c.wide-v.ensures.0 ∙ c.field.ensures)

pub loop-i-preserved : goal.loop-i-preserved
loop-i-preserved c =
    λ m h ch.
    let e = c.line_at-x.ensures in
    let t = c.if-x-eq0.false in
    let s = c.loop-i.invariant m h ch in
    let at = c.wide-v.ensures.0 ∙ c.field.ensures in
    resetting_step h ch.listing.1 c.loop-i-test.true s _ _ (omega arith) at _ _ refl c.unlisted.ensures

pub returns : goal.returns
returns c =
    λ m h ch.
    let t = c.loop-i-test.false in
    reset_done h ch (omega (arith, count_le ch.listing.1)) (c.loop-i.invariant m h ch)
