-- The room is enough, and then all parts are put.
use Rattle.std.proofs.Common.{◌+◌, ◌*◌, ◌≤◌, sym, ◌∙◌, refl, length, arith}
use Rattle.reference_bytes.specs.Put.{flagged}
use Rattle.reference_bytes.proofs.Bytes.{cut_some, whole_length, put_whole}
use Rattle.reference_bytes.proofs.put.Goals as goal

pub returns-then-bytes-length : goal.returns-then-bytes-length
returns-then-bytes-length c m cs h k =
    let a = c.args in
    (omega (arith, c.if-bytes-length.true, c.wide.ensures.0, c.flag.ensures.0, c.wide-2.ensures.0, c.flag-2.ensures.0, whole_length k a.pos a.neg), refl)

pub put_end-n-requires-clause-legs_nonzero : goal.put_end-n-requires-clause-legs_nonzero
put_end-n-requires-clause-legs_nonzero c =
    (cut_some c.requires.by_index.3, c.requires.legs_in_bounds, omega (arith, c.put_points.auto.bytes, c.put_start.auto.bytes, c.if-bytes-length.false, c.wide.ensures.0, c.flag.ensures.0, c.wide-2.ensures.0, c.flag-2.ensures.0))

pub returns : goal.returns
returns c m cs h k =
    let a = c.args in
    let length_is = c.put_end-n.ensures.0 in
    let room : 7 + 7 * a.legs + 2 + flagged a.pos 1 + flagged a.neg 1 ≤ length a.bytes.now =
    omega (arith, c.if-bytes-length.false, c.wide.ensures.0, c.flag.ensures.0, c.wide-2.ensures.0, c.flag-2.ensures.0) in (
      length_is ∙ sym (whole_length k a.pos a.neg),
      omega (arith, length_is, room),
      put_whole k a.pos a.neg a.bytes.now room (c.put_start.ensures m h) (c.put_points.ensures m cs h k) (c.put_end-n.ensures.1 m cs h k),
    )
