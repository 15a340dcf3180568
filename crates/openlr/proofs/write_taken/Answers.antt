-- What the writer answers, told to the host.
use Rattle.openlr.proofs.HostWriting.{count_small, host_call}
use Rattle.openlr.proofs.write_taken.Goals as goal

pub told-requires : goal.told-requires
told-requires c = count_small _ _ _ c.write_from.ensures

pub returns : goal.returns
returns c stretch taken =
    let a = c.args in
    let d = c.write_from.ensures in
    host_call a.map.now a.numbers.now a.pos a.neg a.tests d stretch taken (c.told.ensures d.outcome d.answers)
