-- `find` asks one node after another.
use Rattle.std.proofs.Common.{◌∙◌, refl, arith}
use Rattle.references.proofs.Seeking.{found_here, not_here, not_any}
use Rattle.references.proofs.node.find.Goals as goal

pub loop-v-init : goal.loop-v-init
loop-v-init c m lines h = refl

pub loop-v-preserved : goal.loop-v-preserved
loop-v-preserved c m lines h =
    not_here h _ _ (omega arith) c.is_sought.ensures (c.loop-v.invariant m lines h) c.if-is_sought.false

pub returns-then-is_sought : goal.returns-then-is_sought
returns-then-is_sought c =
    record {
      below = omega arith;
      first = λ m lines h. found_here h _ _ (omega arith) c.is_sought.ensures (c.loop-v.invariant m lines h) c.if-is_sought.true;
    }

pub returns : goal.returns
returns c = record { below = tt; first = λ m lines h. c.loop-v.invariant m lines h ∙ not_any h _ _ (omega arith) }
