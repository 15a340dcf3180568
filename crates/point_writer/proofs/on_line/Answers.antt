-- The line alone is written as a stretch, and its reference gets the marks.
use Rattle.std.proofs.Common.{sym, ap, ◌∙◌, replicate, arith, refl}
use Rattle.std.proofs.lemmas.Result.{err_from_is_err_and}
use Rattle.std.proofs.Math.Seq.{length-take-le}
use Rattle.model.specs.PointAlong.{point_given}
use Rattle.point_bytes.specs.PointForm.{with_marks}
use Rattle.model.proofs.PointWriting.{taken}
use Rattle.point_writer.proofs.Writing.{own_connected, own_known, own_inside, own_written, own_refused, unmarked, marked_first, point_put}
use Rattle.point_writer.proofs.on_line.Goals as goal

pub invariant_of-alone : goal.invariant_of-alone
invariant_of-alone c =
    let (_, set, passed) = c.requires in
    record { known = own_known (taken _ _ passed) set.held }

pub on_part-requires-clause-set : goal.on_part-requires-clause-set
on_part-requires-clause-set c =
    let (m, set, passed) = c.requires in
    let t = taken _ _ passed in
    (m, set, own_connected t, own_inside t)

pub put_marks-requires-clause-shortest_point_in_bounds : goal.put_marks-requires-clause-shortest_point_in_bounds
put_marks-requires-clause-shortest_point_in_bounds c =
    let (m, set, passed) = c.requires in
    let t = taken _ _ passed in
    let k = own_written m _ (c.in_ok-written.ensures m set (own_connected t) (own_inside t)) refl in
    let free = unmarked set.held.formed t (replicate 17 0) in
    (omega (arith, c.on_part.auto.bytes), rw k.first free.0, rw k.first free.1)

pub put_marks-requires-clause-orientation_le_greatest_mark : goal.put_marks-requires-clause-orientation_le_greatest_mark
put_marks-requires-clause-orientation_le_greatest_mark c =
    let t = taken _ _ c.requires.2 in
    (t.orientation, t.side)

pub slice_bounds-reference-end : goal.slice_bounds-reference-end
slice_bounds-reference-end c =
    let (m, set, passed) = c.requires in
    let a = c.args in
    let t = taken _ _ passed in
    let k = own_written m (point_given a.line a.offset a.marks.orientation a.marks.side) (c.in_ok-written.ensures m set (own_connected t) (own_inside t)) refl in
    omega (arith, k.few, c.put_marks.auto.bytes, c.on_part.auto.bytes)

pub slice_bounds-put_bytes-end : goal.slice_bounds-put_bytes-end
slice_bounds-put_bytes-end c =
    let (m, set, passed) = c.requires in
    let a = c.args in
    let t = taken _ _ passed in
    let k = own_written m (point_given a.line a.offset a.marks.orientation a.marks.side) (c.in_ok-written.ensures m set (own_connected t) (own_inside t)) refl in
    sym (length-take-le _ _ (omega (arith, k.few, c.put_marks.auto.bytes, c.on_part.auto.bytes)))

pub returns : goal.returns
returns c m set passed =
    let t = taken m _ passed in
    let k = own_written m _ (c.in_ok-written.ensures m set (own_connected t) (own_inside t)) refl in
    let same = marked_first m _ _ _ _ k.size (c.put_marks.ensures ∙ ap (with_marks _ _) k.first) in
    point_put m _ _ k.good_line (rw (← same) c.put_bytes.ensures)

pub returns-in_err-written : goal.returns-in_err-written
returns-in_err-written c m set passed =
    let t = taken m _ passed in
    let p = err_from_is_err_and c.from_residual.result c.from_residual.ensures.1 in
    rw (p.1, p.2) (own_refused m _ _ (omega arith) (c.in_err-written.ensures m set (own_connected t) (own_inside t)) refl)
