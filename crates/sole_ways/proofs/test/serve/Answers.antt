-- The last search serves.
use Rattle.sole_ways.proofs.Working.{worked_none}
use Rattle.sole_ways.proofs.test.serve.Goals as goal

pub returns-then-part-last-2 : goal.returns-then-part-last-2
returns-then-part-last-2 c m set t ends f =
    record {
      follows = rw c.in-Some.is at f;
      serves = record { classes = c.if-part-last.true; limit = c.if-part-last-2.true };
      start = rw c.in-Some.is at ends;
      worked = worked_none set;
    }
