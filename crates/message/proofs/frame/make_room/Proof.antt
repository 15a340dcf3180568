-- `make_room` meets its contract: the bytes so far move where the length takes its second byte.
use Prim.Native.Nat.{◌≤◌}
use mathlib.Core.Path.{refl}
use Rattle.message_laws.proofs.Lengths.{two_bytes}
use Rattle.message.proofs.Rooms.{unmoved, moved, behind}
use native.Mathlib.Omega.{arith}
use borrow.Author.Rules.{rules}
use Rattle.message.proofs.frame.make_room.Statement.{statement}
use Rattle.message.proofs.frame.make_room.Tie as tie

move-up-requires : tie.Need-move_up-requires
move-up-requires c κs =
    let a = c.args in
    let w = two_bytes a.count c.if-count-ge-GROUP.true (omega arith) in
    omega arith

same_length : tie.Need-shape_of-part
same_length c = search rules

returns : tie.Need-returns-then-count-ge-GROUP
returns c =
    let a = c.args in
    let u = c.move_up in
    let s = c.if-added-lt-GROUP.true in
    let l = c.if-count-ge-GROUP.true in
    let k : a.count ≤ 459 = omega (arith, c.requires) in (
      moved a.added a.count a.part.now u.new.part s l k u.ensures.0,
      behind a.added a.count a.part.now u.new.part s l k u.ensures.1,
    )

returns-2 : tie.Need-returns-else-count-ge-GROUP
returns-2 c = let a = c.args in (unmoved a.added a.count a.part.now (omega arith) (omega arith) (λ h. absurd (omega arith)), refl)

returns-3 : tie.Need-returns-else-added-lt-GROUP
returns-3 c = let a = c.args in (unmoved a.added a.count a.part.now (omega arith) (omega arith) (λ h. c.if-added-lt-GROUP.false), refl)

pub make_room_spec : {M : Type 1} → statement M
make_room_spec = tie.close (tie.spec move-up-requires same_length returns returns-2 returns-3)
