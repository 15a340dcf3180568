-- The offsets are on the first and on the last leg.
use Rattle.std.proofs.Common.{◌∙◌, ◌-◌, ap, length, arith}
use Rattle.model.specs.Lines.{total}
use Rattle.work_area.proofs.Holding.{line_ok}
use Rattle.reference_bytes.proofs.Cutting.{part_good, part_few}
use Rattle.reference_bytes.proofs.Points.{attributes_fit, arriving_by}
use Rattle.reference_bytes.proofs.Bytes.{first_on_leg, last_on_leg, put_tail}
use Rattle.reference_bytes.proofs.put_end.Goals as goal

pub overflow_cast-first : goal.overflow_cast-first
overflow_cast-first c =
    let (m, cs, h, k, _) = c.requires.by_index in
    let good = part_good k 0 c.requires.legs_nonzero.0 (c.leg_of.ensures.leg m cs k) in
    omega (arith, c.total_length-first.ensures m (rw c.leg_of.ensures.map h), good.only.reading.allowed.within)

pub total_length-last-requires-clause-few : goal.total_length-last-requires-clause-few
total_length-last-requires-clause-few c =
    let p = c.requires.by_index in
    let e = c.leg_of-2.ensures.leg p.0 p.1 p.3 in
    let last = c.args.legs - 1 in
    part_few p.3 last (omega arith) e

pub overflow_cast-last : goal.overflow_cast-last
overflow_cast-last c =
    let p = c.requires.by_index in
    let good = part_good p.3 (c.args.legs - 1) (omega (arith, c.requires.legs_nonzero)) (c.leg_of-2.ensures.leg p.0 p.1 p.3) in
    omega (arith, c.total_length-last.ensures p.0 (rw c.leg_of-2.ensures.map p.2), good.only.reading.allowed.within)

pub put_last-requires : goal.put_last-requires
put_last-requires c =
    let p = c.requires.by_index in
    let s = c.args.stretch.numbers.now in
    let ok = line_ok p.2 (c.args.stretch.known (length s - 1) (omega (arith, p.3.some))) in
    let fit = attributes_fit c.attributes_of-a.result 6 ok ok.back (c.attributes_of-a.ensures p.0 p.2) in
    (fit.0, fit.1, fit.2, omega (arith, c.requires.legs_nonzero.2))

pub put_offsets-requires : goal.put_offsets-requires
put_offsets-requires c =
    let p = c.requires.by_index in
    let first = c.total_length-first.ensures p.0 (rw c.leg_of.ensures.map p.2) ∙ ap (total p.0) (c.leg_of.ensures.leg p.0 p.1 p.3) in
    let last = c.total_length-last.ensures p.0 (rw c.leg_of-2.ensures.map p.2) ∙ ap (total p.0) (c.leg_of-2.ensures.leg p.0 p.1 p.3) in (
      omega (arith, first, p.4.pos, first_on_leg p.3),
      omega (arith, last, p.4.neg, last_on_leg p.3),
      omega (arith, c.put_last.auto.bytes, c.requires.legs_nonzero.2),
    )

pub returns : goal.returns
returns c = (
  c.put_offsets.ensures.0,
  λ m cs h k. put_tail k _ _ _ _ _ (c.attributes_of-a.ensures m h ∙ arriving_by m c.args.stretch.numbers.now)
      (c.total_length-first.ensures m (rw c.leg_of.ensures.map h) ∙ ap (total m) (c.leg_of.ensures.leg m cs k)) (c.total_length-last.ensures m (rw c.leg_of-2.ensures.map h) ∙ ap (total m) (c.leg_of-2.ensures.leg m cs k))
      c.args.bytes.now c.requires.legs_nonzero.2 c.put_last.ensures c.put_offsets.ensures.1,
)
