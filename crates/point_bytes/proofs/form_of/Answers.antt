-- The refusals one after another, and then a point along line.
use Rattle.std.proofs.Common.{inl, inr, arith}
use Rattle.model.specs.Refusal.{refusal_of}
use Rattle.model.proofs.PointShape.{too_short, too_long, other_status, bit_7, negative_flag, other_count, taken_apart}
use Rattle.point_bytes.proofs.form_of.Goals as goal
use Rattle.point_bytes.proofs.form_of.Goals.{then-r-ge128-via-then-r-ge128, then-r-ge128-via-else-r-ge128+then-r-eq1}

pub returns-then-n-lt-SHORTEST : goal.returns-then-n-lt-SHORTEST
unfolding refusal_of
returns-then-n-lt-SHORTEST c = elim c.then-n-lt-SHORTEST.either [ inl h ↦ too_short _ h | inr h ↦ too_long _ h.1 ]

pub returns-then-bytes-ne-STATUS : goal.returns-then-bytes-ne-STATUS
unfolding refusal_of
returns-then-bytes-ne-STATUS c = other_status _ c.if-n-lt-SHORTEST.false c.if-n-gt-LONGEST.false c.if-bytes-ne-STATUS.true

pub returns-then-r-ge128 : goal.returns-then-r-ge128
unfolding refusal_of
returns-then-r-ge128 c =
    let e = c.byte_at-r.ensures.0 in
    elim c.then-r-ge128.branch [
      | then-r-ge128-via-then-r-ge128 w ↦
          bit_7 _ c.if-n-lt-SHORTEST.false c.if-n-gt-LONGEST.false c.if-bytes-ne-STATUS.false (omega (arith, e, w.if-r-ge128.true))
      | then-r-ge128-via-else-r-ge128+then-r-eq1 w ↦
          negative_flag _ c.if-n-lt-SHORTEST.false c.if-n-gt-LONGEST.false c.if-bytes-ne-STATUS.false (omega (arith, e, w.if-r-ge128.false)) (rw (← e) w.if-r-eq1.true)
    ]

pub returns-then-n-r : goal.returns-then-n-r
unfolding refusal_of
returns-then-n-r c =
    let e = c.byte_at-r.ensures.0 in
    other_count _ c.if-n-lt-SHORTEST.false c.if-n-gt-LONGEST.false c.if-bytes-ne-STATUS.false
    (omega (arith, e, c.if-r-ge128.false)) (omega (arith, e, c.if-r-eq1.false)) (rw (← e) c.if-n-r.true)

pub returns : goal.returns
returns c =
    let e = c.byte_at-r.ensures.0 in
    taken_apart _ c.if-n-lt-SHORTEST.false c.if-n-gt-LONGEST.false c.if-bytes-ne-STATUS.false
    (omega (arith, e, c.if-r-ge128.false)) (omega (arith, e, c.if-r-eq1.false)) (rw (← e) c.if-n-r.false)
