-- Bytes that are no map, or the answer on the map.
use Rattle.std.proofs.Common.{arith}
use Rattle.std.proofs.lemmas.Result.{err_from_is_err_and}
use Rattle.model.proofs.Answering.{answered_by}
use Rattle.model.proofs.MapLengths.{map_few}
use Rattle.depot_map.proofs.Whole.{read_whole, read_refused}
use Rattle.message_start.proofs.Starts.{map_refused_lem}
use Rattle.message_start.proofs.fn.start.in_work_area.Goals as goal

pub returns-in_err-read_map : goal.returns-in_err-read_map
returns-in_err-read_map c =
    let p = err_from_is_err_and c.from_residual.result c.from_residual.ensures.1 in
    rw (p.1, p.2) (map_refused_lem _ _ _ _ (read_refused c.read_map.ensures c.in_err-read_map.was))

pub on_map-requires : goal.on_map-requires
on_map-requires c =
    let w = read_whole c.read_map.ensures c.in_ok-read_map.was in
    let few = map_few _ w.map w.decodes in
    omega arith

pub returns : goal.returns
returns c =
    let w = read_whole c.read_map.ensures c.in_ok-read_map.was in
    answered_by (λ o h. rw w.decodes h) c.on_map.ensures
