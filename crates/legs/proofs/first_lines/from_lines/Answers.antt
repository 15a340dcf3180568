-- Each turn takes in the first lines at one place more. Where two ways are found, no more can change that.
use Rattle.std.proofs.Common.{◌≡◌, ◌+◌, ◌-◌, ◌∙◌, sym, arith}
use Rattle.search_cells.specs.Area.{listed}
use Rattle.search_cells.proofs.Reached.{count_le}
use Rattle.search_cells.proofs.Places.{past, line_there, new_there}
use Rattle.legs.proofs.Verdicts.{lines_none, lines_more, lines_all, lines_several}
use Rattle.legs.proofs.first_lines.from_lines.Goals as goal

pub loop-i-init : goal.loop-i-init
loop-i-init c = λ m to ready ch. lines_none

pub returns-then-at-eq0 : goal.returns-then-at-eq0
returns-then-at-eq0 c =
    λ m to ready ch.
    let s = ch.listing.1 in
    let z = c.line_at-at.ensures in
    let t = c.if-at-eq0.true in
    lines_all ready s (past s c.loop-i-test.true (omega arith)) (c.loop-i.invariant m to ready ch)

pub loop-i-preserved : goal.loop-i-preserved
loop-i-preserved c =
    λ m to ready ch.
    let s = ch.listing.1 in
    let t = c.loop-i-test.true in
    let at : listed c.args.work.now c.loop-i.i ≡ c.line_at-at.result - 1 + 1 = omega (arith, c.line_at-at.ensures, c.if-at-eq0.false) in
    rw c.both-found.ensures
    (lines_more _ _ at (line_there s t _ at) (new_there s t _ at) (c.loop-i.invariant m to ready ch) (c.from_line.ensures m to ready))

pub returns-in-Several : goal.returns-in-Several
returns-in-Several c =
    λ m to ready ch.
    let s = ch.listing.1 in
    let t = c.loop-i-test.true in
    let at : listed c.args.work.now c.loop-i.i ≡ c.line_at-at.result - 1 + 1 = omega (arith, c.line_at-at.ensures, c.if-at-eq0.false) in
    let now = lines_more _ _ at (line_there s t _ at) (new_there s t _ at) (c.loop-i.invariant m to ready ch) (c.from_line.ensures m to ready) in
    rw c.in-Several.is (lines_several (rw (sym c.both-found.ensures ∙ c.in-Several.is) at now))

pub returns : goal.returns
returns c =
    λ m to ready ch.
    let s = ch.listing.1 in
    let t = c.loop-i-test.false in
    lines_all ready s (omega (arith, count_le s)) (c.loop-i.invariant m to ready ch)
