-- 30, or the answer to the reference by itself.
use Rattle.std.proofs.Common.{sym, ◌∙◌}
use Rattle.model.specs.Outcome.{ReadOutcome}
use Rattle.front.proofs.OnFront.{own_map}
use Rattle.reader.proofs.OfMessages.{front_refused}
use Rattle.reader.proofs.on_front.Goals as goal

pub returns-then-not-same_map : goal.returns-then-not-same_map
returns-then-not-same_map c m set count = front_refused _ _ _ (sym c.same_map.ensures ∙ c.if-not-same_map.true)

pub returns : goal.returns
returns c m set count = own_map ReadOutcome.refused _ _ _ (sym c.same_map.ensures ∙ c.if-not-same_map.false) (c.on_map.ensures m set count)
