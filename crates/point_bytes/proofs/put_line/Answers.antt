-- The bytes are copied, and three of them put anew.
use Rattle.point_bytes.proofs.AsLine.{put_over}
use Rattle.point_bytes.proofs.put_line.Goals as goal

pub returns : goal.returns
returns c = rw (c.copy.ensures, c.byte_at-first.ensures.0, c.byte_at-last.ensures.0) (put_over c.args.bytes.now c.args.line.now c.requires.0)
