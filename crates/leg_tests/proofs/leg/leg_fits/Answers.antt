-- The nodes are those of the leg's ends.
use Rattle.std.proofs.Common.{ℕ, ◌∙◌, subst}
use lib.Seq.{slice}
use Rattle.model.specs.Difference.{DifferencesFit}
use Rattle.model.specs.Lines.{node_at}
use Rattle.model.specs.Choice.{to_node}
use Rattle.buffers.specs.Decides.{Decides}
use Rattle.leg_tests.proofs.Slices.{from_of_slice, to_of_slice}
use Rattle.leg_tests.proofs.leg.leg_fits.Goals as goal

pub returns : goal.returns
returns c m held =
    let a = c.args in
    let p = c.requires.bounds in
    let from = c.node_of-from.ensures m held in
    let to = c.node_of-to.ensures m held in
    let s = a.stretch.numbers.now in
    subst (λ (x : ℕ). Decides (DifferencesFit (node_at m x) (node_at m (to_node m (slice a.i a.j s)))) c.fits.result) (from.0 ∙ from_of_slice s a.i a.j p.0 p.1 m)
    (subst (λ (x : ℕ). Decides (DifferencesFit (node_at m c.node_of-from.result) (node_at m x)) c.fits.result)
    (to.0 ∙ to_of_slice s a.i a.j p.0 p.1 m) (c.fits.ensures m held from.1 to.1))
