-- The line reference with the same points is answered, and the marks are told with that.
use Rattle.std.proofs.Common.{refl, sym, arith}
use Rattle.std.proofs.Math.Seq.{length-take-le}
use Rattle.model.proofs.Answering.{passed_on}
use Rattle.model.specs.PointAlong.{point_along_at}
use Rattle.model.proofs.PointShape.{shaped}
use Rattle.point_bytes.proofs.AsLine.{sound_line}
use Rattle.point_reader.proofs.Answers.{line_first, found_by_line, refused_by_line}
use Rattle.point_reader.proofs.on_point.Goals as goal

pub put_line-requires : goal.put_line-requires
put_line-requires c = let s = (shaped _ _ c.requires.bytes_value).0 in (s.long, s.short)

pub slice_bounds-copy-end : goal.slice_bounds-copy-end
slice_bounds-copy-end c = let s = (shaped _ _ c.requires.bytes_value).0 in omega (arith, s.short, c.put_line.auto.line)

pub slice_bounds-line-end : goal.slice_bounds-line-end
slice_bounds-line-end c =
    let s = (shaped _ _ c.requires.bytes_value).0 in
    sym (length-take-le _ _ (omega (arith, s.short, c.put_line.auto.line)))

pub invariant_of-line : goal.invariant_of-line
invariant_of-line c = record { sound = rw (line_first _ _ _ c.put_line.ensures) (sound_line _ (shaped _ _ c.requires.bytes_value).0) }

pub marks_in-marks-requires : goal.marks_in-marks-requires
marks_in-marks-requires c = (shaped _ _ c.requires.bytes_value).0.long

pub returns-in_err-found : goal.returns-in_err-found
returns-in_err-found c m set count =
    let passed = passed_on c.from_residual.result c.from_residual.ensures.1 in
    rw passed (refused_by_line m _ _ _ _ _ _ _ (shaped _ _ c.requires.bytes_value).0 refl c.put_line.ensures (c.in_err-found.ensures m set count))

pub returns : goal.returns
unfolding point_along_at
returns c m set count =
    found_by_line m _ _ _ _ _ _ _ (shaped _ _ c.requires.bytes_value).0 refl c.put_line.ensures c.marks_in-marks.ensures.0 c.marks_in-marks.ensures.1
    (c.in_ok-found.ensures m set count)
