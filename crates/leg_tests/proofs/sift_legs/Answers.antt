-- One column more.
use Rattle.std.proofs.Common.{ℕ, ◌≤◌, List, length, sym, ◌∙◌, arith}
use Rattle.leg_tests.proofs.Walking.{columns_start, columns_sole, columns_on, columns_end, sifted_noted}
use Rattle.model.specs.Map.{Map}
use Rattle.leg_tests.specs.LegTests.{NotesKept, SoleLegs}
use Rattle.leg_tests.proofs.sift_legs.Goals as goal

pub note_alone-requires : goal.note_alone-requires
note_alone-requires c =
    let p = c.requires.stretch_len_bound in
    let q = c.requires.set in
    let listed = c.list_leaving.ensures q.0 q.1 in
    record { bounds = (p.0, p.1); held = (q.0, listed.worked.set.held, listed.leaving) }

-- The notes leave the legs' numbers as they were.
module _ {m : Map} {s a b : List ℕ} (few : length s ≤ 64) (kept : NotesKept (length s) a b) where
  sole_still : SoleLegs m s a → SoleLegs m s b
  sole_still sole i j h l one = sole i j h l (sym (kept.legs i j (omega arith) (omega (arith, l))) ∙ one)

pub loop-j-init : goal.loop-j-init
loop-j-init c m set joint noted sole = columns_start noted set

pub test_to-requires : goal.test_to-requires
test_to-requires c =
    let p = c.requires.stretch_len_bound in
    let q = c.requires.set in
    let listed = c.list_leaving.ensures q.0 q.1 in
    let sole = sole_still p.0 c.note_alone.ensures.notes_kept q.3 in
    let k = c.loop-j.invariant q.0 listed.worked.set q.2 (c.note_alone.ensures.noted q.0 listed.worked.set.held listed.leaving) sole in
    record {
      j_nonzero = (omega arith, omega arith, p.0, omega arith);
      set = (q.0, k.worked.set, q.2, k.noted, columns_sole (omega arith) sole k);
    }

pub loop-j-preserved : goal.loop-j-preserved
loop-j-preserved c m set joint noted sole =
    let k = c.loop-j.invariant m set joint noted sole in
    columns_on c.requires.stretch_len_bound.0 (omega arith) (omega arith) k
    (c.test_to.ensures m k.worked.set joint k.noted (columns_sole (omega arith) sole k))

pub returns : goal.returns
returns c m set joint sole =
    let few = c.requires.stretch_len_bound.0 in
    let listed = c.list_leaving.ensures m set in
    let notes = c.note_alone.ensures in
    sifted_noted few listed.worked notes.notes_kept
    (columns_end (omega arith) (c.loop-j.invariant m listed.worked.set joint (notes.noted m listed.worked.set.held listed.leaving) (sole_still few notes.notes_kept sole)))
