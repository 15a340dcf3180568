-- What starting answers is told with nothing given.
use Rattle.std.proofs.Common.{ℕ}
use lib.ListN.{length-replicate}
use Rattle.model.specs.Work.{work_length}
use Rattle.host_message.specs.Held.{as_message}
use Rattle.host_message.proofs.Starting.{narrow_start, host_start}
use Rattle.host_message.proofs.begin.Goals as goal

pub told-requires : goal.told-requires
told-requires c = narrow_start _ c.start.ensures

pub returns : goal.returns
unfolding as_message
returns c = host_start c.start.ensures (length-replicate {A = ℕ} work_length 0) c.told.ensures
