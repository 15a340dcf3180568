-- `met_before` meets its contract: the walk along the chain of the node's bucket.
use Prim.Native.Nat.{◌-◌}
use mathlib.Core.Path.{sym, ◌∙◌}
use Rattle.equal_codes.proofs.EqualCodes.{among_true, among_false}
use Rattle.equal_codes.proofs.Chains.{walk_start, walk_on}
use native.Mathlib.Omega.{arith}
use Rattle.equal_codes.proofs.met_before.Goals as goal

pub loop-k-init : goal.loop-k-init
loop-k-init c =
    walk_start _ _ _ c.bucket-h.ensures.0 c.requires.2 c.requires.3 c.bucket-h.ensures.1

pub returns-then-same_codes : goal.returns-then-same_codes
returns-then-same_codes c = sym (among_true _ _ _ (c.loop-k.k - 1) (omega arith) (sym c.same_codes.ensures ∙ c.if-same_codes.true))

pub loop-k-preserved : goal.loop-k-preserved
loop-k-preserved c =
    walk_on _ _ _ c.bucket-h.ensures.0 c.requires.2 c.requires.3 _ c.loop-k-test.true c.loop-k.invariant
    (sym c.same_codes.ensures ∙ c.if-same_codes.false)

pub returns : goal.returns
returns c = sym (among_false _ _ _ (λ m l. c.loop-k.invariant.seen m (omega arith) l))
