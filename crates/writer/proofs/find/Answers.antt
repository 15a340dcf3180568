-- Legs tested, points chosen over those tested good, and the fewest legs when the others count as good.
use Rattle.std.proofs.Common.{ℕ, ◌≡◌, ◌-◌, length, refl, subst, Err, inl, inr, arith}
use Rattle.std.proofs.lemmas.Result.{err_from_is_err_and}
use Rattle.model.specs.Choice.{good}
use Rattle.model.specs.LegTests.{good_or_untested, NoChoice}
use Rattle.model.specs.declared.Refusal.TheVariants as why
use Rattle.point_choice.proofs.Routes.{short}
use Rattle.writer.specs.Found.{FoundLegs, Finds}
use Rattle.writer.proofs.Writing.{zeros, few_tests, finds_nowhere, finds_unfinished, finds_legs, fewer}
use Rattle.writer.proofs.find.Goals as goal

pub test_legs-made-requires-clause-stretch_len_bound : goal.test_legs-made-requires-clause-stretch_len_bound
test_legs-made-requires-clause-stretch_len_bound c = (c.requires.part_len_bound.0, omega arith, zeros 4_160)

pub returns-in_err-hoped : goal.returns-in_err-hoped
returns-in_err-hoped c m set joint =
    let part = c.args.part.numbers.now in
    let t = c.test_legs-made in
    let all = t.ensures.all_tested m set joint in
    let none = rw c.in_err-hoped.ensures.ok_part at c.hoped_legs.ensures.fewest in
    let p = err_from_is_err_and c.from_residual.result c.from_residual.ensures.1 in
    let which : c.in_err-hoped.field-0.0 ≡ why.NoChoice = grind arith in
    rw (p.1, p.2, which) (
      all.set,
      inl (
        refl,
        subst (λ (q : ℕ). NoChoice (good_or_untested (good m) part q) part) t.ensures.value
            (finds_nowhere m part t.result t.new.table joint c.requires.part_len_bound.0 all.tested none),
      ),
    )

pub returns-in_err-legs : goal.returns-in_err-legs
returns-in_err-legs c m set joint =
    let part = c.args.part.numbers.now in
    let t = c.test_legs-made in
    let all = t.ensures.all_tested m set joint in
    let hoped = rw c.in_ok-hoped.ensures.ok_part at c.hoped_legs.ensures.fewest in
    let none = rw c.in_err-legs.ensures.ok_part at c.choose-chosen.ensures in
    let p = err_from_is_err_and c.from_residual-in_err-legs.result c.from_residual-in_err-legs.ensures.1 in
    let which : c.in_err-legs.field-0.0 ≡ why.Unfinished = grind arith in
    let later = finds_unfinished m part t.result t.new.table joint c.requires.part_len_bound.0 all.tested hoped none.0 in
    rw (p.1, p.2, which) (
      all.set,
      subst (λ (q : ℕ). Finds m part q c.choose-chosen.new.cuts (Err why.Unfinished)) t.ensures.value (inr (refl, later.0, later.1)),
    )

pub overflow_sub-excess : goal.overflow_sub-excess
overflow_sub-excess c =
    let (m, set, joint) = c.requires.set in
    let t = c.test_legs-made in
    let hoped = rw c.in_ok-hoped.ensures.ok_part at c.hoped_legs.ensures.fewest in
    let legs = rw c.in_ok-legs.ensures.ok_part at c.choose-chosen.ensures in
    fewer m c.args.part.numbers.now t.result t.new.table joint c.requires.part_len_bound.0 (t.ensures.all_tested m set joint).tested hoped c.args.cuts.now legs

pub overflow_cast-excess : goal.overflow_cast-excess
overflow_cast-excess c =
    let legs = rw c.in_ok-legs.ensures.ok_part at c.choose-chosen.ensures in
    omega (arith, legs.2, short legs.1.route, c.requires.part_len_bound.0)

pub overflow_cast-result : goal.overflow_cast-result
overflow_cast-result c =
    omega (arith, c.test_legs-made.ensures.value, few_tests (length c.args.part.numbers.now) c.args.tests c.requires.part_len_bound.0)

pub returns : goal.returns
returns c m set joint =
    let part = c.args.part.numbers.now in
    let t = c.test_legs-made in
    let all = t.ensures.all_tested m set joint in
    let hoped = rw c.in_ok-hoped.ensures.ok_part at c.hoped_legs.ensures.fewest in
    let legs = rw c.in_ok-legs.ensures.ok_part at c.choose-chosen.ensures in (
      all.set,
      subst (λ (q : ℕ). FoundLegs m part q c.choose-chosen.new.cuts c.in_ok-legs.legs t.result (c.in_ok-legs.legs - c.in_ok-hoped.hoped)) t.ensures.value
          (finds_legs m part t.result t.new.table joint c.requires.part_len_bound.0 all.tested hoped c.args.cuts.now legs),
    )
