-- A stretch that is refused, or the answer for what remains of it.
use Rattle.std.proofs.lemmas.Result.{err_from_is_err_and}
use Rattle.model.proofs.Answering.{answered_by}
use Rattle.stretches.proofs.Checks.{left_of, left_connected}
use Rattle.model.specs.Stretch.{stretch_of}
use Rattle.leg_tests.proofs.Trials.{all_known}
use Rattle.writer.proofs.Writing.{left_inside}
use Rattle.writer.proofs.Answers.{stretch_refused}
use Rattle.writer.proofs.on_map.Goals as goal

pub returns-in_err-left : goal.returns-in_err-left
returns-in_err-left c m set =
    let a = c.args in
    let p = err_from_is_err_and c.from_residual.result c.from_residual.ensures.1 in
    rw (p.1, p.2) (stretch_refused m (stretch_of a.stretch.now a.pos a.neg) _ _ _ (c.in_err-left.ensures m set.held))

pub invariant_of-part : goal.invariant_of-part
invariant_of-part c =
    let (m, set) = c.requires in
    record { known = all_known set (left_connected (c.in_ok-left.ensures m set.held)) }

pub on_part-requires-clause-part_len_bound : goal.on_part-requires-clause-part_len_bound
on_part-requires-clause-part_len_bound c =
    let (m, set) = c.requires in
    (left_of (c.in_ok-left.ensures m set.held)).few

pub on_part-requires-clause-set : goal.on_part-requires-clause-set
on_part-requires-clause-set c =
    let (m, set) = c.requires in
    let passes = c.in_ok-left.ensures m set.held in
    (m, set, left_connected passes, left_inside (left_of passes))

pub returns : goal.returns
returns c m set =
    let passes = c.in_ok-left.ensures m set.held in
    answered_by (λ o r. rw passes.checked r) (c.on_part.ensures m set (left_connected passes) (left_inside (left_of passes)))
