-- What is said of sole ways, and of what the columns leave of them, is said of the legs tested good.
use Rattle.std.proofs.Common.{arith}
use Rattle.buffers.proofs.Kept.{kept_then, kept_within}
use Rattle.sole_ways.proofs.Marks.{mark_sound}
use Rattle.leg_tests.proofs.SoleLegs.{good_sole}
use Rattle.leg_tests.proofs.Straight.{tested_marks}
use Rattle.leg_tests.proofs.Termini.{own_there}
use Rattle.leg_tests.proofs.Trials.{leg_of_lem}
use Rattle.leg_tests.proofs.test_legs.Goals as goal

pub sift_legs-requires-clause-set : goal.sift_legs-requires-clause-set
sift_legs-requires-clause-set c =
    let q = c.requires.set in
    let t = c.test_sole_ways-made.ensures.sole_tested q.0 q.1 q.2 in
    (q.0, t.set, q.2, λ i j h l one. (mark_sound _ (t.says i j h l) one).1)

pub returns-clause-all_tested : goal.returns-clause-all_tested
returns-clause-all_tested c m set joint =
    let s = c.args.stretch.numbers.now in
    let made = c.test_sole_ways-made in
    let t = made.ensures.sole_tested m set joint in
    let k = c.sift_legs.ensures m t.set joint (λ i j h l one. (mark_sound _ (t.says i j h l) one).1) in
    record {
      tested = λ i j h l.
          tested_marks s made.result i j h l
          (λ g. good_sole (leg_of_lem set joint c.requires.stretch_len_bound.0 h l) (own_there set.held s c.args.stretch.known j (omega arith) l).1 g)
          (t.says i j h l) (k.tested i j h l);
      kept = kept_then t.kept k.kept;
      set = k.worked.set;
      area = kept_then t.area (kept_within (omega arith) (omega arith) k.worked.kept);
    }
