-- The writer's answer, by its refusal.
use Rattle.host_trip.proofs.HandedPoint.{wrote_point, no_point}
use Rattle.host_trip.proofs.point.write_given.Goals as goal

pub returns-then-written-ne0 : goal.returns-then-written-ne0
returns-then-written-ne0 c = no_point _ c.openlr_write_point-written.ensures c.if-written-ne0.true

pub returns : goal.returns
returns c = wrote_point _ c.openlr_write_point-written.ensures c.if-written-ne0.false
