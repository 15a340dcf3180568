-- `put_length` meets its contract: one byte or two.
use Prim.Native.Nat.{ℕ, ◌+◌, ◌/◌, ◌%◌}
use mathlib.Core.Path.{sym, ◌∙◌, ap}
use mathlib.Core.List.{List}
use lib.ListN.{length, length-set}
use Rattle.model.specs.Work.{placed}
use Rattle.message_laws.proofs.Lengths.{short_length, long_length}
use Rattle.message.proofs.Places.{put_one, put_two}
use native.Mathlib.Omega.{arith}
use borrow.Author.Rules.{rules}
use Rattle.message.proofs.frame.put_length.Statement.{statement}
use Rattle.message.proofs.frame.put_length.Tie as tie

cast-part : tie.Need-overflow_cast-part
cast-part c = search rules

slice-write-part : tie.Need-bounds-part-0
slice-write-part c =
    let a = c.args in omega (arith, ap length (short_length a.count (omega arith) c.if-count-lt-GROUP.true))

add-part : tie.Need-overflow_add-part
add-part c = search rules

cast-part-2 : tie.Need-overflow_cast-part-else-count-lt-GROUP
cast-part-2 c = search rules

slice-write-part-2 : tie.Need-bounds-part-0-else-count-lt-GROUP
slice-write-part-2 c =
    let a = c.args in omega (arith, ap length (long_length a.count c.if-count-lt-GROUP.false (omega arith)))

cast-part-3 : tie.Need-overflow_cast-part-else-count-lt-GROUP-2
cast-part-3 c = search rules

slice-write-part-3 : tie.Need-bounds-part-1
slice-write-part-3 c =
    let a = c.args in simp length-set (omega (arith, ap length (long_length a.count c.if-count-lt-GROUP.false (omega arith))))

same_length : tie.Need-shape_of-part-then-count-lt-GROUP
same_length c = search rules

returns : tie.Need-returns-then-count-lt-GROUP
returns c =
    let a = c.args in
    let e = short_length a.count (omega arith) c.if-count-lt-GROUP.true in
    put_one a.count a.part.now (omega (arith, ap length e)) ∙ ap (λ (l : List ℕ). placed l a.part.now) (sym e)

same-length-2 : tie.Need-shape_of-part-else-count-lt-GROUP
same-length-2 c = search rules

returns-2 : tie.Need-returns-else-count-lt-GROUP
returns-2 c =
    let a = c.args in
    let e = long_length a.count c.if-count-lt-GROUP.false (omega arith) in
    put_two (a.count % 128 + 128) (a.count / 128) a.part.now (omega (arith, ap length e)) ∙ ap (λ (l : List ℕ). placed l a.part.now) (sym e)

pub put_length_spec : {M : Type 1} → statement M
put_length_spec =
    tie.close
    (tie.spec
    cast-part
    slice-write-part
    add-part
    cast-part-2
    slice-write-part-2
    cast-part-3
    slice-write-part-3
    same_length
    returns
    same-length-2
    returns-2)
