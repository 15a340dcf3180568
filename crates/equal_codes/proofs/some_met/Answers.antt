-- `some_met` meets its contract: of the first j nodes, each has other codes than those before it.
use mathlib.Core.Path.{sym, ◌∙◌}
use borrow.Author.Count.{below_more}
use Rattle.buffers.proofs.Kept.{kept_then}
use Rattle.equal_codes.proofs.EqualCodes.{clash_true, clash_false, coded_same, among_same}
use native.Mathlib.Omega.{arith}
use Rattle.equal_codes.proofs.some_met.Goals as goal

pub met_before-requires : goal.met_before-requires
met_before-requires c =
    let v = c.loop-j.invariant in
    let coded = coded_same v.0 (omega arith) c.requires.2 in
    (omega (arith, v.0.same), omega arith, λ i l. coded i (omega arith), v.1)

pub returns-then-met_before : goal.returns-then-met_before
returns-then-met_before c =
    let l = c.loop-j in
    let met = sym c.met_before.ensures ∙ c.if-met_before.true in
    record { found = sym (clash_true _ _ l.j (omega arith) (sym (among_same l.invariant.0 _ (omega arith)) ∙ met)); kept = l.invariant.0 }

pub loop-j-preserved : goal.loop-j-preserved
loop-j-preserved c =
    let v = c.loop-j.invariant in
    let k = c.add_to_bucket.ensures in
    let not-met = sym c.met_before.ensures ∙ c.if-met_before.false in (
      kept_then v.0 k.kept,
      k.chains,
      below_more _ _ v.2 (sym (among_same v.0 _ (omega arith)) ∙ not-met),
    )

pub returns : goal.returns
returns c =
    let v = c.loop-j.invariant in
    record { found = sym (clash_false _ _ (λ k l. v.2 k (omega arith))); kept = v.0 }
