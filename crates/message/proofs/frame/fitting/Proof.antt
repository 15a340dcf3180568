-- `fitting` meets its contract, test by test.
use mathlib.Core.Path.{sym, ◌≡◌}
use Rattle.message_laws.proofs.Fitting.{behind_finished, long_reference, past_room, ends}
use Prim.Native.Nat.{◌+◌}
use Rattle.model.specs.MessageCall.{end_of}
use native.Mathlib.Omega.{arith}
use borrow.Author.Rules.{rules}
use Rattle.message.proofs.frame.fitting.Statement.{statement}
use Rattle.message.proofs.frame.fitting.Tie as tie

returns : tie.Need-returns-then-added-gt-LONGEST_REFERENCE
returns c = sym (long_reference _ _ _ (omega arith))

returns-2 : tie.Need-returns-then-added-more
returns-2 c = sym (long_reference _ _ _ (omega arith))

returns-3 : tie.Need-returns-then-room-finished
returns-3 c = let a = c.args in sym (past_room _ _ _ (omega (arith, behind_finished a.finished (a.added + a.more))))

returns-4 : tie.Need-returns-then-finished-gt-LONGEST_MESSAGE
returns-4 c = let a = c.args in sym (past_room _ _ _ (omega (arith, behind_finished a.finished (a.added + a.more))))

add-end-of : tie.Need-overflow_add-added
add-end-of c = search rules

end-of-requires : tie.Need-end_of-end-requires
end-of-requires c κs = search rules

returns-5 : tie.Need-returns-then-room-end
returns-5 c = sym (past_room _ _ _ (omega (arith, c.end_of-end.ensures)))

returns-6 : tie.Need-returns
returns-6 c =
    let a = c.args in
    let e : c.end_of-end.result ≡ end_of a.finished (a.added + a.more) = c.end_of-end.ensures in
    ends a.finished (a.added + a.more) a.room c.end_of-end.result e (omega arith) (omega arith)

pub fitting_spec : {M : Type 1} → statement M
fitting_spec =
    tie.close
    (tie.spec returns returns-2 returns-3 returns-4 add-end-of end-of-requires returns-5 returns-6)
