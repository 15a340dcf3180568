-- The first point, then one point more each turn; or a point without a node.
use Rattle.std.proofs.Common.{sym, ◌∙◌, arith, ◌+◌}
use Rattle.model.proofs.Answering.{passed_on}
use Rattle.buffers.proofs.Kept.{kept_none}
use Rattle.references.proofs.Located.{located_none}
use Rattle.references.proofs.Seeking.{node_found, node_missing}
use Rattle.references.proofs.Tracked.{kept_set, tracked_first, tracked_more, tracked_all, tracked_no_more}
use Rattle.references.proofs.points.locate.Goals as goal

pub returns-in_err-places : goal.returns-in_err-places
returns-in_err-places c =
    let passed = passed_on c.from_residual.result c.from_residual.ensures.1 in
    let gone = node_missing (rw (c.at3.ensures.0, c.at3-2.ensures.0) at c.find.ensures) _ (sym c.ok_or.ensures.value ∙ c.in_err-places.was) in
    rw passed
    (record { answers = record { point = 0; is = gone.0; missing = λ m lines h. located_none m _ _ (gone.1 m lines h) }; kept = kept_none })

pub loop-k-init : goal.loop-k-init
loop-k-init c =
    let here = node_found (rw (c.at3.ensures.0, c.at3-2.ensures.0) at c.find.ensures) _ (sym c.ok_or.ensures.value ∙ c.in_ok-places.was) in
    record { kept = kept_set c.args.reference.points 0 _ (omega arith) kept_none; tracked = tracked_first _ _ _ c.args.places.now _ (omega arith) here }

pub returns-in_err-places-2 : goal.returns-in_err-places-2
returns-in_err-places-2 c =
    let passed = passed_on c.from_residual-in_err-places-2.result c.from_residual-in_err-places-2.ensures.1 in
    let gone = node_missing (rw c.next_sought-next.ensures at c.find-in-loop-k.ensures) _ (sym c.ok_or-in-loop-k.ensures.value ∙ c.in_err-places-2.was) in
    rw passed
    (record {
      answers = record {
        point = c.loop-k.k + 1;
        is = gone.0;
        missing = λ m lines h. tracked_no_more _ _ _ _ _ _ c.loop-k-test.true c.loop-k.invariant.tracked m lines h (gone.1 m lines h);
      };
      kept = c.loop-k.invariant.kept;
    })

pub loop-k-preserved : goal.loop-k-preserved
loop-k-preserved c =
    let next = node_found (rw c.next_sought-next.ensures at c.find-in-loop-k.ensures) _ (sym c.ok_or-in-loop-k.ensures.value ∙ c.in_ok-places-2.was) in
    record {
      kept = kept_set c.args.reference.points _ _ (omega arith) c.loop-k.invariant.kept;
      tracked = tracked_more _ _ _ c.loop-k.places _ c.loop-k.k (omega arith) c.loop-k.invariant.tracked next;
    }

pub returns : goal.returns
returns c = record { answers = tracked_all _ _ _ _ _ _ (omega arith) c.loop-k.invariant.tracked; kept = c.loop-k.invariant.kept }
