-- A point without a node, or the answer on the legs between them.
use Rattle.std.proofs.Common.{arith}
use Rattle.model.proofs.Answering.{passed_on}
use Rattle.reader.proofs.Answers.{no_point_read}
use Rattle.reader.proofs.on_points.Goals as goal

pub returns-in_err-locate : goal.returns-in_err-locate
returns-in_err-locate c m set count =
    let passed = passed_on c.from_residual.result c.from_residual.ensures.1 in
    let gone = c.in_err-locate.ensures.answers in
    rw passed (no_point_read gone.is (gone.missing m _ (rw count at set.held)))

pub returns : goal.returns
returns c m set count =
    let all = c.in_ok-locate.ensures.answers in
    c.on_places.ensures m set (λ k h. omega (arith, all.below k h, count)) (all.located m _ (rw count at set.held))
