-- The verdict is told by how the leg ends, and by the attributes of its last line.
use Rattle.std.proofs.Common.{ap, arith}
use Rattle.fields.specs.Leg.{arrival_in}
use Rattle.legs.proofs.Searched.{not_last}
use Rattle.reference_legs.proofs.OneMore.{node_terminus, line_terminus}
use Rattle.reference_legs.proofs.termini.read_terminus.Goals as goal

pub read_to-requires : goal.read_to-requires
unfolding arrival_in
read_to-requires c = let p = c.requires.set in (p.0, p.1, node_terminus p.0 _ (ap arrival_in c.in_default.is), p.2)

pub returns-in_default : goal.returns-in_default
unfolding arrival_in
returns-in_default c =
    λ m set to h.
    let e = ap arrival_in c.in_default.is in
    rw e (c.read_to.ensures m set (node_terminus m _ e) to)

pub returns-then-not-arrives_as : goal.returns-then-not-arrives_as
unfolding arrival_in
returns-then-not-arrives_as c =
    λ m set to h.
    let e = ap arrival_in c.in-Some.is in
    rw e
    (not_last c.args.leg _ _ e set (rw (c.if-not-arrives_as.true) at (c.arrives_as.ensures m set.held)))

pub read_to-requires-2 : goal.read_to-requires-2
unfolding arrival_in
read_to-requires-2 c =
    let p = c.requires in
    let m = p.set.0 in
    let e = ap arrival_in c.in-Some.is in
    let alike = rw (c.if-not-arrives_as.false) at (c.arrives_as.ensures m p.set.1.held) in
    (m, p.set.1, line_terminus m c.args.leg c.args.at _ e alike (rw e at p.set.3), omega (arith, p.at_nonzero.0, p.at_nonzero.1))

pub returns : goal.returns
unfolding arrival_in
returns c =
    λ m set to h.
    let p = c.requires.at_nonzero in
    let e = ap arrival_in c.in-Some.is in
    let alike = rw (c.if-not-arrives_as.false) at (c.arrives_as.ensures m set.held) in
    rw e (c.read_to-2.ensures m set (line_terminus m c.args.leg c.args.at _ e alike (rw e at h)) (omega (arith, p.0, p.1)))
