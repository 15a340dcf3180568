-- In the order of the tests: past the limit, the first, farther, nearer, and as near.
use Rattle.std.proofs.Common.{◌∙◌, refl, ap, inl, inr, arith}
use Rattle.search_cells.specs.Area.{length_to, farther, nearest, alike}
use Rattle.search_cells.proofs.nearest.nearer.Goals as goal

pub returns-then-limit-to : goal.returns-then-limit-to
returns-then-limit-to c = let t = c.if-limit-to.true in farther refl (inl (omega arith))

pub returns-then-x-eq0 : goal.returns-then-x-eq0
returns-then-x-eq0 c =
    let t = c.if-limit-to.false in
    let z = c.if-x-eq0.true in
    nearest refl (omega arith) (λ p. absurd (omega arith))

pub returns-then-best-to : goal.returns-then-best-to
returns-then-best-to c =
    let b = c.length_to-best.ensures ∙ ap (length_to c.args.work.now) c.wide.ensures.0 in
    let t = c.if-best-to.true in
    farther refl (inr (omega arith, omega arith))

pub returns-then-to-best : goal.returns-then-to-best
returns-then-to-best c =
    let b = c.length_to-best.ensures ∙ ap (length_to c.args.work.now) c.wide.ensures.0 in
    let t = c.if-to-best.true in
    nearest refl (omega arith) (λ p. omega arith)

pub returns : goal.returns
returns c =
    let b = c.length_to-best.ensures ∙ ap (length_to c.args.work.now) c.wide.ensures.0 in
    let t = c.if-to-best.false in
    alike refl (omega arith) (omega arith) (omega arith)
