-- As many bytes as fit are copied.
use Rattle.std.proofs.Common.{arith}
use Rattle.answer_text.proofs.Putting.{put_fitting, part_put}
use Rattle.answer_text.proofs.put.Goals as goal

pub returns : goal.returns
returns c =
    let from = c.min-from.result in
    let count = c.min-count.result in
    put_fitting c.args.at from count c.args.bytes.now c.args.buffer.now _ c.min-from.ensures c.min-count.ensures
    (part_put from count _ c.args.bytes.now c.args.buffer.now _ (omega arith) c.copy_from_slice.ensures.after (omega (arith, c.min-count.ensures)))
