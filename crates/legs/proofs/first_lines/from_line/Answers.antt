-- A line that is not the leg's has no reading; the ways from another are judged by their length.
use Rattle.std.proofs.Common.{sym, ap, ◌∙◌, arith}
use Rattle.model.specs.Field.{distance}
use Rattle.legs.specs.Verdict.{unread}
use Rattle.legs.proofs.Verdicts.{elsewhere, other_line, other_distance, line_verdict}
use Rattle.legs.proofs.first_lines.from_line.Goals as goal

pub returns-then-wide-leg : goal.returns-then-wide-leg
returns-then-wide-leg c =
    λ m to ready.
    let l = c.requires.first_lt_lines in
    unread (elsewhere ready _ λ same. c.if-wide-leg.true (c.wide.ensures.0 ∙ c.field.ensures ∙ ready.held.line_held _ 0 l (omega arith) ∙ same))

pub returns-then-not-leaves_as : goal.returns-then-not-leaves_as
returns-then-not-leaves_as c =
    λ m to ready.
    unread (other_line ready _ (rw (c.if-not-leaves_as.true) at (c.leaves_as.ensures m ready.held)))

pub returns-then-distance-leg : goal.returns-then-distance-leg
returns-then-distance-leg c =
    λ m to ready.
    let l = c.requires.first_lt_lines in
    let from = sym (ready.held.line_held _ 0 l (omega arith)) ∙ sym c.field.ensures ∙ sym c.wide.ensures.0 ∙ c.if-wide-leg.false in
    let leaves = rw (c.if-not-leaves_as.false) at (c.leaves_as.ensures m ready.held) in
    unread (other_distance ready _ l from leaves (λ e. c.if-distance-leg.true (c.distance.ensures ∙ ap distance c.length_to.ensures ∙ e)))

pub returns : goal.returns
returns c =
    λ m to ready.
    let l = c.requires.first_lt_lines in
    let from = sym (ready.held.line_held _ 0 l (omega arith)) ∙ sym c.field.ensures ∙ sym c.wide.ensures.0 ∙ c.if-wide-leg.false in
    let leaves = rw (c.if-not-leaves_as.false) at (c.leaves_as.ensures m ready.held) in
    rw c.judge.ensures (line_verdict ready _ from leaves c.ways_from.result (c.ways_from.ensures m _ to ready.searched))
