-- By the size of the count.
use Rattle.std.proofs.Common.{arith}
use Rattle.message_laws.proofs.Lengths.{no_length, short_length, long_length}
use Rattle.message.proofs.frame.length_bytes.Goals as goal

pub returns-then-count-eq0 : goal.returns-then-count-eq0
returns-then-count-eq0 c = (rw (c.if-count-eq0.true, no_length), omega arith)

pub returns-then-count-lt-GROUP : goal.returns-then-count-lt-GROUP
returns-then-count-lt-GROUP c = (rw (short_length c.args.count (omega arith) c.if-count-lt-GROUP.true), omega arith)

pub returns : goal.returns
returns c = (rw (long_length c.args.count c.if-count-lt-GROUP.false (omega arith)), omega arith)
