-- The next line of the list leaves so too, or it is passed.
use Rattle.std.proofs.Common.{sym, ◌∙◌, arith}
use Rattle.model.specs.Lines.{leaving}
use Rattle.search_cells.proofs.Leaving.{list_less}
use Rattle.stretches.specs.Attributes.{attributes_by}
use Rattle.leg_tests.proofs.LeavingLists.{along_start, along_on}
use Rattle.leg_tests.proofs.alone.alone_mark.Goals as goal
use Rattle.leg_tests.proofs.alone.alone_mark.Goals.{then-at-own+else-leaves_as, else-at-own}

pub loop-at-init : goal.loop-at-init
loop-at-init c m held lists = along_start (c.first_from-at.ensures m lists (c.node_of-v.ensures m held).1)

pub first_from-at-requires : goal.first_from-at-requires
first_from-at-requires c = let q = c.requires.held in (q.0, q.1, q.2, (c.node_of-v.ensures q.0 q.1).1)

pub leaves_as-requires : goal.leaves_as-requires
leaves_as-requires c =
    let q = c.requires.held in
    record { l_lt_lines = omega (arith, (c.loop-at.invariant q.0 q.1 q.2).list.within); held = (q.0, q.1) }

pub returns-then-leaves_as : goal.returns-then-leaves_as
unfolding attributes_by leaving
returns-then-leaves_as c m held lists alone =
    let some = c.loop-at-test.true in
    let here = c.loop-at.invariant m held lists in
    let leaves = rw c.if-leaves_as.true at (c.leaves_as.ensures m held) in
    c.if-at-own.true
    (alone _ (omega (arith, here.list.within)) (here.list.joined some ∙ (c.node_of-v.ensures m held).0) (leaves ∙ c.attributes_of-leaves.ensures m held)
    ∙ sym c.wide-own.ensures.0)

pub next_from-at-requires : goal.next_from-at-requires
next_from-at-requires c =
    let q = c.requires.held in
    record { at_nonzero = (c.loop-at-test.true, (c.loop-at.invariant q.0 q.1 q.2).list.within); held = (q.0, q.1, q.2) }

pub loop-at-smaller : goal.loop-at-smaller
loop-at-smaller c =
    let q = c.requires.held in
    list_less (c.loop-at.invariant q.0 q.1 q.2).list c.loop-at-test.true (c.next_from-at.ensures q.0 q.2)

pub loop-at-preserved : goal.loop-at-preserved
loop-at-preserved c m held lists =
    along_on (c.loop-at.invariant m held lists) c.loop-at-test.true
    (λ same. elim c.if-at-own.branch [
      | then-at-own+else-leaves_as w ↦ absurd ((rw w.if-leaves_as.false at (w.leaves_as.ensures m held)) same)
      | else-at-own w ↦ w.if-at-own.false
    ])
    (c.next_from-at.ensures m lists)

pub returns : goal.returns
unfolding attributes_by leaving
returns c m held lists l inside from leaves =
    (c.loop-at.invariant m held lists).passed l inside (from ∙ sym (c.node_of-v.ensures m held).0) (omega arith)
    (leaves ∙ sym (c.attributes_of-leaves.ensures m held))
    ∙ c.wide-own.ensures.0
