-- Bytes that are no map.
use Rattle.std.proofs.lemmas.Result.{err_from_is_err_and}
use Rattle.point_writer.proofs.Answers.{map_refused_lem}
use Rattle.point_writer.proofs.fn.write_point.in_work_area.Goals as goal

pub returns-in_err-opened : goal.returns-in_err-opened
returns-in_err-opened c =
    let p = err_from_is_err_and c.from_residual.result c.from_residual.ensures.1 in
    rw (p.1, p.2) (map_refused_lem _ _ _ _ c.in_err-opened.ensures.answers)
