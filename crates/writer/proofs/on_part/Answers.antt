-- A choice of points found, or none, and its bytes put.
use Rattle.std.proofs.Common.{◌≡◌, ◌+◌, arith, inl, inr, ◌⊎◌}
use Rattle.std.proofs.lemmas.Result.{err_from_is_err_and}
use Rattle.model.specs.declared.Refusal.TheVariants as why
use Rattle.point_choice.proofs.Routes.{short}
use Rattle.writer.proofs.Writing.{none_written, put_written, short_written}
use Rattle.writer.proofs.on_part.Goals as goal

pub returns-in_err-found : goal.returns-in_err-found
returns-in_err-found c m set joint inside =
    let a = c.args in
    let p = err_from_is_err_and c.from_residual.result c.from_residual.ensures.1 in
    rw (p.1, p.2) (none_written a.pos a.neg a.bytes.now c.find.new.cuts (c.in_err-found.ensures m set joint).1)

pub put-requires-clause-legs_in_bounds : goal.put-requires-clause-legs_in_bounds
put-requires-clause-legs_in_bounds c =
    let (m, set, joint, _) = c.requires.set in
    let found = (c.in_ok-found.ensures m set joint).1 in
    omega (arith, c.requires.part_len_bound, found.cut.count, short found.cut.route, c.find.auto.cuts)

pub returns-in_err-count : goal.returns-in_err-count
returns-in_err-count c m set joint inside =
    let a = c.args in
    let found = c.in_ok-found.ensures m set joint in
    let puts = rw c.in_err-count.ensures.ok_part at (c.put.ensures m found.1.ends found.0.held found.1.cut) in
    let p = err_from_is_err_and c.from_residual-in_err-count.result c.from_residual-in_err-count.ensures.1 in
    let which : c.in_err-count.field-0.0 ≡ why.BytesShort = grind arith in
    rw (p.1, p.2, which) (short_written a.pos a.neg a.bytes.now found.1 puts)

pub returns : goal.returns
returns c m set joint inside =
    let a = c.args in
    let found = c.in_ok-found.ensures m set joint in
    put_written a.pos a.neg a.bytes.now found.1 (rw c.in_ok-count.ensures.ok_part at (c.put.ensures m found.1.ends found.0.held found.1.cut))
