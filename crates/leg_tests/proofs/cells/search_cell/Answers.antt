-- The leg is measured, searched for where the last search does not serve it, and tested.
use Rattle.std.proofs.Common.{ℕ, ◌≤◌, ◌≡◌, List, ap, ◌∙◌, take, drop, ◌-◌, arith}
use Rattle.model.specs.Map.{Map}
use Rattle.model.specs.Lines.{total, lowest}
use Rattle.model.specs.Reading.{greatest_leg_length}
use Rattle.work_area.specs.Area.{Held}
use Rattle.sole_ways.specs.SoleWays.{SoleLeg}
use Rattle.sole_ways.proofs.Marks.{marks_yes, marks_no}
use Rattle.leg_tests.specs.LegTests.{OnLeg, Trial}
use Rattle.leg_tests.proofs.Slices.{part_is}
use Rattle.leg_tests.proofs.Termini.{serves_there}
use Rattle.leg_tests.proofs.Trials.{class_small, trial_of}
use Rattle.leg_tests.proofs.cells.search_cell.Goals as goal

-- The leg with its class and its length, which is no more than a leg can have.
module _ {m : Map} {lines : ℕ} (s : List ℕ) {i j class len : ℕ} (t : OnLeg m lines s i j) where
  measured : {ls : List ℕ} → ls ≡ take (j - i) (drop i s) → class ≡ lowest m ls → len ≡ total m ls → Trial m lines s i j class len
  measured p e f = let part = p ∙ part_is i j s in trial_of t (e ∙ ap (lowest m) part) (f ∙ ap (total m) part)

short : {m : Map} {lines : ℕ} (s : List ℕ) {i j class len : ℕ} → Trial m lines s i j class len → SoleLeg m s i j → len ≤ greatest_leg_length
short s t sole = omega (arith, t.measured.sum, sole.within)

pub overflow_cast-len : goal.overflow_cast-len
overflow_cast-len c =
    let p = c.requires in
    let s = c.args.stretch.numbers.now in
    let part = c.part-leg.ensures in
    let held : Held c.args.work.now c.part-leg.result.lines p.0 = rw part.1 p.1.held in
    let t = measured s p.2 part.0 (c.lowest_class-class.ensures p.0 held) (c.total_length-len.ensures p.0 held) in
    omega (arith, short s t p.3)

pub prepare-limit-requires-clause-bounds : goal.prepare-limit-requires-clause-bounds
prepare-limit-requires-clause-bounds c =
    let p = c.requires in
    let s = c.args.stretch.numbers.now in
    let part = c.part-leg.ensures in
    let held : Held c.args.work.now c.part-leg.result.lines p.0 = rw part.1 p.1.held in
    let t = measured s p.2 part.0 (c.lowest_class-class.ensures p.0 held) (c.total_length-len.ensures p.0 held) in
    (p.2.few, omega (arith, p.2.ordered, p.2.inside), short s t p.3, class_small t p.1.held.formed)

pub prepare-limit-requires-clause-set : goal.prepare-limit-requires-clause-set
prepare-limit-requires-clause-set c = let p = c.requires in (p.0, p.1, (serves_there c.args.own p.5).stands)

pub test_leg-requires : goal.test_leg-requires
test_leg-requires c =
    let p = c.requires in
    let s = c.args.stretch.numbers.now in
    let part = c.part-leg.ensures in
    let held : Held c.args.work.now c.part-leg.result.lines p.0 = rw part.1 p.1.held in
    let t = measured s p.2 part.0 (c.lowest_class-class.ensures p.0 held) (c.total_length-len.ensures p.0 held) in
    let prepared = c.prepare-limit.ensures p.0 p.1 (serves_there c.args.own p.5).stands p.6 in
    (p.0, c.args.to, prepared.worked.set, t, p.4, p.5, short s t p.3, prepared.done)

pub returns-then-test_leg : goal.returns-then-test_leg
returns-then-test_leg c m set on sole alone there done =
    let s = c.args.stretch.numbers.now in
    let part = c.part-leg.ensures in
    let held : Held c.args.work.now c.part-leg.result.lines m = rw part.1 set.held in
    let t = measured s on part.0 (c.lowest_class-class.ensures m held) (c.total_length-len.ensures m held) in
    let prepared = c.prepare-limit.ensures m set (serves_there c.args.own there).stands done in
    let found = rw c.if-test_leg.true at (c.test_leg.ensures m _ prepared.worked.set t alone there (short s t sole) prepared.done) in
    record { says = marks_yes found; done = prepared.done.searched; worked = prepared.worked }

pub returns : goal.returns
returns c m set on sole alone there done =
    let s = c.args.stretch.numbers.now in
    let part = c.part-leg.ensures in
    let held : Held c.args.work.now c.part-leg.result.lines m = rw part.1 set.held in
    let t = measured s on part.0 (c.lowest_class-class.ensures m held) (c.total_length-len.ensures m held) in
    let prepared = c.prepare-limit.ensures m set (serves_there c.args.own there).stands done in
    let never = rw c.if-test_leg.false at (c.test_leg.ensures m _ prepared.worked.set t alone there (short s t sole) prepared.done) in
    record { says = marks_no never; done = prepared.done.searched; worked = prepared.worked }
