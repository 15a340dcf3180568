-- One after the other.
use Rattle.std.proofs.Common.{◌∙◌, ap, arith}
use Rattle.buffers.specs.Placed.{put_at}
use Rattle.buffers.proofs.Placing.{put_then}
use Rattle.reference_bytes.specs.Put.{offset_part}
use Rattle.reference_bytes.proofs.Bytes.{part_length}
use Rattle.reference_bytes.proofs.put_offsets.Goals as goal

pub returns : goal.returns
returns c =
    let a = c.args in
    let e = c.put_offset-next.ensures in
    let first = part_length a.first a.pos in
    let last = part_length a.last a.neg in (
      omega (arith, c.put_offset.ensures.0, e.0),
      c.put_offset.ensures.1 ∙ ap (put_at c.put_offset-next.result (offset_part a.last a.neg)) e.1
          ∙ put_then a.at (offset_part a.first a.pos) a.bytes.now (omega (arith, first, c.requires.2)) c.put_offset-next.result (omega (arith, first, e.0))
          (offset_part a.last a.neg) (omega (arith, first, last, c.requires.2)),
    )
