-- The part that stands there is the reference itself.
use Rattle.std.proofs.Common.{arith, ◌≡◌, ◌∙◌, ap₂, ℕ, ◌-◌, length, take, drop}
use Rattle.model.specs.Message.{reference_number}
use Rattle.message_laws.proofs.Parts.{placed_in}
use Rattle.message_list.proofs.received.Goals as goal

pub slice_bounds-result-count : goal.slice_bounds-result-count
slice_bounds-result-count c = omega (arith, placed_in c.args.n c.args.message.now, c.place-part.ensures)

pub slice_bounds-result-start : goal.slice_bounds-result-start
slice_bounds-result-start c = omega (arith, placed_in c.args.n c.args.message.now, c.place-part.ensures)

pub slice_bounds-result-end : goal.slice_bounds-result-end
slice_bounds-result-end c = omega (arith, placed_in c.args.n c.args.message.now, c.place-part.ensures)

pub returns : goal.returns
returns c =
    let n = c.args.n in
    let message = c.args.message.now in
    let p = placed_in n message in
    let r = c.place-part in
    let count : r.result.end - r.result.start ≡ length (reference_number n message) = omega (arith, p.counted, r.ensures) in
    ap₂ (λ (j k : ℕ). take j (drop k message)) count r.ensures.0 ∙ p.itself
