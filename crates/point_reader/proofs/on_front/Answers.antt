-- 30, or the answer to the point by itself.
use Rattle.std.proofs.Common.{sym, ◌∙◌}
use Rattle.model.specs.PointAlong.{PointReadOutcome}
use Rattle.front.proofs.OnFront.{own_map}
use Rattle.point_reader.proofs.OfMessages.{front_refused}
use Rattle.point_reader.proofs.on_front.Goals as goal

pub returns-then-not-same_map : goal.returns-then-not-same_map
returns-then-not-same_map c m set count = front_refused _ _ _ (sym c.same_map.ensures ∙ c.if-not-same_map.true)

pub returns : goal.returns
returns c m set count = own_map PointReadOutcome.refused _ _ _ (sym c.same_map.ensures ∙ c.if-not-same_map.false) (c.on_map.ensures m set count)
