-- `check` meets its contract, check by check.
use Rattle.std.proofs.Common.{sym, arith}
use Rattle.model.specs.Refusal.{refusal_of}
use Rattle.stretches.proofs.Checks.{no_lines, too_many, no_such_line, not_joined, banned_turn, too_far, left, known_of}
use Rattle.stretches.proofs.Sums.{offsets_fit}
use Rattle.stretches.proofs.stretch.check.Goals as goal

pub returns-then-stretch-eq0 : goal.returns-then-stretch-eq0
unfolding refusal_of
returns-then-stretch-eq0 c m h = no_lines m _ c.if-stretch-eq0.true

pub returns-then-stretch-gt-GREATEST_STRETCH : goal.returns-then-stretch-gt-GREATEST_STRETCH
unfolding refusal_of
returns-then-stretch-gt-GREATEST_STRETCH c m h = too_many m _ c.if-stretch-eq0.false c.if-stretch-gt-GREATEST_STRETCH.true

pub returns-then-has_unknown : goal.returns-then-has_unknown
unfolding refusal_of
returns-then-has_unknown c m h =
    no_such_line m _ c.if-stretch-eq0.false c.if-stretch-gt-GREATEST_STRETCH.false (sym (c.if-has_unknown.ensures m h.line_count))

pub invariant_of-list : goal.invariant_of-list
invariant_of-list c = record { known = known_of _ c.requires.1 (c.if-has_unknown.ensures c.requires.0 c.requires.1.line_count) }

pub returns-then-has_gap : goal.returns-then-has_gap
unfolding refusal_of
returns-then-has_gap c m h =
    not_joined m _ c.if-stretch-eq0.false c.if-stretch-gt-GREATEST_STRETCH.false (sym (c.if-has_unknown.ensures m h.line_count)) (sym (c.if-has_gap.ensures m h))

pub returns-then-has_ban : goal.returns-then-has_ban
unfolding refusal_of
returns-then-has_ban c m h =
    banned_turn m _ c.if-stretch-eq0.false c.if-stretch-gt-GREATEST_STRETCH.false (sym (c.if-has_unknown.ensures m h.line_count)) (sym (c.if-has_gap.ensures m h))
    (sym (c.if-has_ban.ensures m h))

pub overflow_add-wide : goal.overflow_add-wide
overflow_add-wide c = omega (arith, offsets_fit {pos = c.wide.result} {neg = c.wide-2.result} (omega arith) (omega arith))

pub returns-then-total_length-wide : goal.returns-then-total_length-wide
unfolding refusal_of
returns-then-total_length-wide c m h =
    too_far m _ c.if-stretch-eq0.false c.if-stretch-gt-GREATEST_STRETCH.false (sym (c.if-has_unknown.ensures m h.line_count)) (sym (c.if-has_gap.ensures m h))
    (sym (c.if-has_ban.ensures m h)) (omega (arith, c.total_length.ensures m h))

pub returns : goal.returns
returns c m h =
    left m _ c.if-stretch-eq0.false c.if-stretch-gt-GREATEST_STRETCH.false (sym (c.if-has_unknown.ensures m h.line_count)) (sym (c.if-has_gap.ensures m h))
    (sym (c.if-has_ban.ensures m h)) (omega (arith, c.total_length.ensures m h)) _ (c.after_offsets.ensures m h)
