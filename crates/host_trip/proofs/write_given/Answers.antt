-- The writer's answer, by its refusal.
use Rattle.host_trip.proofs.Handed.{wrote_so, not_written}
use Rattle.host_trip.proofs.write_given.Goals as goal

pub returns-then-written-ne0 : goal.returns-then-written-ne0
returns-then-written-ne0 c = not_written _ c.openlr_write-written.ensures c.if-written-ne0.true

pub returns : goal.returns
returns c = (c.if-written-ne0.false, wrote_so _ c.openlr_write-written.ensures c.if-written-ne0.false)
