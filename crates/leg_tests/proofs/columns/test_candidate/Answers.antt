-- The own last line is tested, one of other attributes has no readings, and any other is tested.
use Rattle.std.proofs.Common.{refl, sym, ◌∙◌, arith}
use Rattle.sole_ways.proofs.Working.{worked_none}
use Rattle.leg_tests.proofs.Opening.{not_alike, not_again}
use Rattle.leg_tests.proofs.Sifting.{column_none}
use Rattle.leg_tests.proofs.Termini.{serves_line}
use Rattle.leg_tests.proofs.columns.test_candidate.Goals as goal

pub returns-then-last-wide : goal.returns-then-last-wide
returns-then-last-wide c m set joint ends e noted owned sole =
    let own = c.if-last-wide.true ∙ c.wide.ensures.0 in
    record { sifted = λ i h. rw own (not_again (owned i h)); kept = column_none; worked = worked_none set }

pub returns-then-not-arrives_as : goal.returns-then-not-arrives_as
returns-then-not-arrives_as c m set joint ends e noted owned sole =
    let differs = rw c.if-not-arrives_as.true at (c.arrives_as.ensures m set.held) in
    record {
      sifted = λ i h. not_alike c.args.stretch.numbers.now joint h (omega arith) refl (λ same. differs (same ∙ sym e));
      kept = column_none;
      worked = worked_none set;
    }

pub test_column-requires-clause-set : goal.test_column-requires-clause-set
test_column-requires-clause-set c =
    let p = c.requires.stretch_nonzero in
    let q = c.requires.set in
    let alike = rw c.if-not-arrives_as.false at (c.arrives_as.ensures q.0 q.1.held) in (
      q.0,
      q.1,
      q.2,
      record {
        serves = serves_line q.1.held c.args.stretch.numbers.now c.args.stretch.known p.3 q.3 (alike ∙ q.4);
        differs = λ same. c.if-last-wide.false (sym same ∙ sym c.wide.ensures.0);
      },
      q.5,
      q.7,
    )

pub returns : goal.returns
returns c m set joint ends e noted owned sole =
    let alike = rw c.if-not-arrives_as.false at (c.arrives_as.ensures m set.held) in
    c.test_column.ensures m set joint
    (record {
      serves = serves_line set.held c.args.stretch.numbers.now c.args.stretch.known c.requires.stretch_nonzero.3 ends (alike ∙ e);
      differs = λ same. c.if-last-wide.false (sym same ∙ sym c.wide.ensures.0);
    })
    noted sole
