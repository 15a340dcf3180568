-- Field by field.
use Rattle.std.proofs.Common.{ℕ, sym, ◌∙◌, ap, cond, length}
use lib.Dec.{eqb}
use Rattle.model.specs.Field.{distance}
use Rattle.model.specs.Lines.{leaving, arriving}
use Rattle.model.specs.Reading.{any, matching}
use Rattle.model.specs.Choice.{arrival_of, leg_of}
use Rattle.fields.specs.Leg.{leg_in}
use Rattle.stretches.specs.Attributes.{attributes_by}
use Rattle.sole_ways.proofs.Slices.{first_of_slice, last_of_slice}
use Rattle.leg_tests.proofs.Slices.{from_of_slice, to_of_slice}
use Rattle.leg_tests.proofs.leg.leg_of.Goals as goal

pub returns : goal.returns
unfolding leg_in leg_of arrival_of attributes_by leaving
returns c m h x =
    let a = c.args in
    let s = a.stretch.numbers.now in
    let p = c.requires.bounds in
    let from = (c.node_of-from.ensures m h).0 ∙ from_of_slice s a.i a.j p.0 p.1 m in
    let to = (c.node_of-to.ensures m h).0 ∙ to_of_slice s a.i a.j p.0 p.1 m in
    let leaves = c.attributes_of-leaves.ensures m h ∙ ap (leaving m) (sym (first_of_slice s a.i a.j p.0 p.1)) in
    let classes = x.classes in
    let far = c.distance-distance.ensures ∙ ap distance x.sum in
    let arrives = c.arrival_to-arrival.ensures m h
    ∙ ap (λ (l : ℕ). cond (eqb a.j (length s)) (matching (arriving m l)) any) (sym (last_of_slice s a.i a.j p.0 p.1)) in
    λ t. record { from = from t; to = to t; leaves = leaves t; lowest = classes t; distance = far t; arrival = arrives t }
